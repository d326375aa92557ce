-- `sound::judge::roles_fit` meets its contract: T2, T3, then T4's first clauses, by the laws of sound_roles.
use Rattle.std.proofs.Common.{sym, ◌∙◌}
use Rattle.sound_roles.proofs.Laws.Scan.{goes_on}
use Rattle.sound.proofs.Laws.Parts.{t2_given, t3_given, t4_given}
use Rattle.sound.proofs.judge.roles_fit.Goals as goal
use Rattle.sound.proofs.judge.roles_fit.Goals.{then-t2, else-t2}

pub returns-then-t3 : goal.returns-then-t3
returns-then-t3 c =
    let s = c.args.s.now in
    let t = c.args.t.now in
    let cs = c.args.c.now in
    let b = c.used-used.ensures.ready in
    let r = c.requires in
    let f = rw (c.used-used.ensures.value, c.index-index.ensures) at c.contexts_fit.ensures in
    elim c.if-t2.branch [
      | then-t2 w ↦
          f ∙ t4_given b s t cs r.0 r.1
          ∙ goes_on _ _ (sym (t3_given b s t cs r.0 r.1) ∙ sym w.t3.ensures ∙ sym w.value-is ∙ c.if-t3.true)
          ∙ goes_on _ _ (sym (t2_given b s t cs r.0 r.1) ∙ sym c.t2.ensures ∙ w.if-t2.true)
      | else-t2 w ↦ cc
    ]
