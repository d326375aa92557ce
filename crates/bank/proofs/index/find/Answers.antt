-- `bank::index::find` meets its contract: the head is empty or holds what is sought, or the search goes on below it.
use Rattle.std.proofs.Common.{◌∙◌, sym, arith}
use mathlib.Core.Bool.{true≢false}
use Rattle.bank.proofs.Laws.Finding.{is_row, row_is}
use Rattle.bank.proofs.Laws.Trees.{one_at, head_none, head_below, begins}
use Rattle.bank.proofs.index.find.Goals.{then-at-eq0-via-then-at-eq0, then-at-eq0-via-else-at-eq0+then-row_is}
use Rattle.bank.proofs.index.find.Goals as goal

pub returns-then-at-eq0 : goal.returns-then-at-eq0
returns-then-at-eq0 c =
    let a = c.args.symbol in
    let ps = c.args.places in
    let h = c.bucket.result in
    let e = c.bucket.ensures.0 in
    elim c.then-at-eq0.branch [
      | then-at-eq0-via-then-at-eq0 w ↦ head_none c.requires a ps h e w.if-at-eq0.true
      | then-at-eq0-via-else-at-eq0+then-row_is w ↦
          let r = is_row c.args.words.now _ a ps (sym w.row_is.ensures ∙ w.if-row_is.true) in
          one_at c.requires a ps _ (omega (arith, w.if-at-eq0.false)) (head_below c.requires a ps h e) r.0 r.1
    ]

pub below-requires : goal.below-requires
below-requires c = (
  c.requires,
  begins c.requires c.args.symbol c.args.places c.bucket.result c.bucket.ensures.0 c.if-at-eq0.false
      (λ p q. true≢false (sym (row_is c.args.words.now _ c.args.symbol c.args.places p q) ∙ sym c.row_is.ensures ∙ c.if-row_is.false)),
)
