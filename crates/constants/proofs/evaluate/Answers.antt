use Rattle.std.proofs.Common.{refl, ◌∙◌, sym}
use Rattle.constants.proofs.Answered.{table_of, whole_length, unread_permits, permits, keeps, zeros}
use Rattle.constants.proofs.evaluate.Goals as goal

pub returns-then-a-ne-NONE : goal.returns-then-a-ne-NONE
returns-then-a-ne-NONE c = unread_permits _ _ _ _ _ c.tree-a.ensures c.if-a-ne-NONE.true _ _ refl c.clear.ensures

pub numbered-c-requires : goal.numbered-c-requires
numbered-c-requires c = table_of _ _ _ c.tree-a.ensures c.if-a-ne-NONE.false

pub returns-then-is_err : goal.returns-then-is_err
returns-then-is_err c =
    let e = sym c.is_err.ensures.value ∙ c.if-is_err.true in
    permits _ _ _ _ _ c.tree-a.ensures c.if-a-ne-NONE.false _ _ _ _ c.numbered-c.ensures.0 c.numbered-c.ensures.2 c.numbered-c.ensures.1
    (zeros _ e _ _ (whole_length _ _ _ c.tree-a.ensures c.if-a-ne-NONE.false) c.clear-then-is_err.ensures) (zeros _ e _ _ c.numbered-c.ensures.1 c.clear-then-is_err-2.ensures)

pub returns-else-is_err : goal.returns-else-is_err
returns-else-is_err c =
    let e = sym c.is_err.ensures.value ∙ c.if-is_err.false in
    permits _ _ _ _ _ c.tree-a.ensures c.if-a-ne-NONE.false _ _ _ _ c.numbered-c.ensures.0 c.numbered-c.ensures.2 c.numbered-c.ensures.1 (keeps _ e _ _) (keeps _ e _ _)
