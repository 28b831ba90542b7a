-- What the writer's scanning functions say.
use Rattle.std.specs.Prelude.{Some, None, Ok, Err, ℕ, ◌+◌, List, cond, eqb, ltb, length}
use Rattle.tokens.specs.declared.Cursor.{Cursor}
use Rattle.tokens.specs.Results.{Step}
use Rattle.tokens.specs.Results.{Whole}
use Rattle.tokens.specs.Tokens.{step_at, whole_of, token_of, answer_of}
use Rattle.list.specs.declared.State.{State}
use Rattle.list.specs.declared.Stored.{Stored}
use Rattle.list.specs.Filled.{zero_token}

-- where reading begins
abbrev pub beginning : Cursor
beginning = record { at = 0 }

unfoldable pub failed : List ℕ → ℕ → State
failed s n = record { cursor = None; place = 0; answer = answer_of s n }

-- the source ends behind so many tokens
unfoldable pub complete : List ℕ → ℕ → State
complete s p = record { cursor = None; place = p; answer = record { number = 0; start = 0; end = length s; count = p } }

-- no token is stored behind the first p
unfoldable pub ended : List ℕ → ℕ → ℕ → Step → State
ended s n p (Ok (w, a, next)) = failed s n
ended s n p (Err r) = cond (eqb r.number 11) (complete s p) (failed s n)

unfoldable pub onward : Cursor → ℕ → State
onward cursor p = record { cursor = Some cursor; place = p; answer = record { number = 0; start = 0; end = 0; count = 0 } }

unfoldable pub standing : List ℕ → ℕ → Cursor → ℕ → State
standing s n cursor p = cond (ltb p n) (onward cursor p) (ended s n p (step_at s cursor.at))

unfoldable pub begun_by : List ℕ → ℕ → Whole → State
begun_by s n (Ok tt) = standing s n beginning 0
begun_by s n (Err r) = failed s n

unfoldable pub begun : List ℕ → ℕ → State
begun s n = begun_by s n (whole_of s)

-- what is stored at place p, and where that leaves the writer: while tokens are read, and behind the last
unfoldable pub read_by : List ℕ → ℕ → ℕ → Step → Stored
read_by s n p (Ok (w, a, next)) = record { token = token_of w a next; state = standing s n next (p + 1) }
read_by s n p (Err r) = record { token = zero_token; state = ended s n p (Err r) }

unfoldable pub zero_next : State → Stored
zero_next st = record { token = zero_token; state = record { cursor = None; place = st.place + 1; answer = st.answer } }

unfoldable pub next_of : List ℕ → ℕ → State → Stored
next_of s n st = elim st.cursor [ Some cursor ↦ read_by s n st.place (step_at s cursor.at) | None ↦ zero_next st ]
