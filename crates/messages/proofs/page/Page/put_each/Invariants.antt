use Rattle.std.proofs.Common.{◌≡◌, ◌+◌, ◌<◌, ℕ, length, max, min, take, slice_index}
use Rattle.messages.proofs.page.Page.put_each.Given as goal

abbrev pub invariant-loop-b : goal.invariant-loop-b
invariant-loop-b g l =
    goal.F-IsAlwaysCallable g l.form
    × ((i : ℕ) → i < l.b-index → l.initial.self.len + i < length l.initial.self.bytes.now → goal.F-post g l.form (slice_index l.t i) (slice_index l.self.bytes.now (l.initial.self.len + i)))
    × (take l.initial.self.len l.self.bytes.now ≡ take l.initial.self.len l.initial.self.bytes.now)
    × (length l.self.bytes.now ≡ length l.initial.self.bytes.now)
    × (l.self.len ≡ max l.initial.self.len (min (l.initial.self.len + l.b-index) (length l.initial.self.bytes.now)))
