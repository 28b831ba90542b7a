-- What a reader answers: what was read and where that leaves it, or a refusal.
use Rattle.std.specs.Prelude.{Result}
use Rattle.tokens.specs.declared.Refusal.{Refusal}
use Rattle.parser.specs.declared.Here.{Here}
use Rattle.parser.specs.declared.Node.{Node}
use Rattle.parser.specs.declared.Stmt.{Stmt}
use Rattle.parser.specs.declared.Arm.{Arm}

-- A phrase's node, and where the reader stands behind it.
abbrev pub Read : Type 0
Read = Result (Node × Here) Refusal

-- A statement, by how it ended.
abbrev pub StmtRead : Type 0
StmtRead = Result Stmt Refusal

-- An arm, by whether another may follow.
abbrev pub ArmRead : Type 0
ArmRead = Result Arm Refusal
