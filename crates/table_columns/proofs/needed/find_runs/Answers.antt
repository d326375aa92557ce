-- `needed::find_runs` meets its contract, by the laws of Needed: a position put before the run, which then goes on or starts anew.
use Rattle.std.proofs.Common.{◌≡◌, refl, sym, subst, ℕ, List, ◌+◌, ◌-◌, ◌*◌, ◌≤◌, length, set, arith}
use Rattle.bank.specs.Notes.{room_in}
use Rattle.table_columns.specs.Notes.{Runs}
use Rattle.table_columns.proofs.Laws.Needed.{Spine, runs_none, spine_none, runs_more, spine_more, same_more}
use Rattle.table_columns.proofs.needed.find_runs.Goals as goal
use Rattle.table_columns.proofs.needed.find_runs.Goals.{then-notes-z, else-notes-z}

pub loop-p-init : goal.loop-p-init
loop-p-init c =
    let z = room_in c.args.notes.now in
    let ns = c.args.notes.now in
    record { ahead = omega arith; low = omega arith; runs = runs_none z ns c.args.n; spine = spine_none z ns (c.args.n + 1); same = record { size = refl; same = λ i l. refl } }

pub loop-p-preserved : goal.loop-p-preserved
loop-p-preserved c =
    let l = c.loop-p in
    let v = l.invariant in
    let z : ℕ = room_in c.args.notes.now in
    let us : List ℕ = set l.notes (2 * z + l.p) l.end in
    let at : l.p ≡ l.p - 1 + 1 = omega (arith, c.loop-p-test.true) in
    let long : 4 * z ≤ length l.notes = omega (arith, v.same.size) in
    let runs = subst (λ (p : ℕ). Runs z us p c.args.n) at (runs_more v.runs v.spine l.p refl v.ahead v.low c.requires.0 long) in
    let same = same_more v.same l.p l.end in
    elim c.if-notes-z.branch [
      | then-notes-z w ↦
          let new : Spine z us (l.p - 1 + 1) l.p = subst (λ (p : ℕ). Spine z us p l.p) at (spine_none z us l.p) in
          record {
            ahead = omega (arith, w.end-is, c.loop-p-test.true);
            low = omega (arith, w.end-is, v.ahead, v.low);
            runs = runs;
            spine = subst (Spine z us (l.p - 1 + 1)) (sym w.end-is) new;
            same = same;
          }
      | else-notes-z w ↦
          let more = spine_more v.runs v.spine l.p refl v.ahead v.low c.requires.0 long (omega (arith, w.if-notes-z.false, c.loop-p-test.true)) in
          let on : Spine z us (l.p - 1 + 1) l.end = subst (λ (p : ℕ). Spine z us p l.end) at more in
          record {
            ahead = omega (arith, w.end-is, v.ahead, c.loop-p-test.true);
            low = omega (arith, w.end-is, v.low);
            runs = runs;
            spine = subst (Spine z us (l.p - 1 + 1)) (sym w.end-is) on;
            same = same;
          }
    ]
