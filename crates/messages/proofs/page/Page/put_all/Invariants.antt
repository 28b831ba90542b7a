use Rattle.std.proofs.Common.{◌≡◌, ◌+◌, length, max, min, drop}
use Rattle.std.proofs.lemmas.List.Edits.{sets}
use Rattle.messages.proofs.page.Page.put_all.Given as goal

-- what is still to be put makes of the page what the whole text makes of it as it was
abbrev pub invariant-loop-b : goal.invariant-loop-b
invariant-loop-b l =
    (sets l.self.bytes.now (l.initial.self.len + l.b-index) (drop l.b-index l.t) ≡ sets l.initial.self.bytes.now l.initial.self.len l.t)
    × (length l.self.bytes.now ≡ length l.initial.self.bytes.now)
    × (l.self.len ≡ max l.initial.self.len (min (l.initial.self.len + l.b-index) (length l.initial.self.bytes.now)))
