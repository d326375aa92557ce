-- What was said, where no line refuses it, over the lent words and lists: rows run short, or the mark is stored and the step goes on.
-- The words are the old ones with rows behind and one answer set, so a shortage is undone by setting that answer back and putting back the rows behind.
use mathlib.Core.Path.{◌≡◌, refl, sym, ap, subst, ◌∙◌}
use mathlib.Core.Logic.{inl, inr}
use mathlib.Core.Bool.{true, false}
use mathlib.Core.List.{List}
use Prim.Native.Nat.{ℕ, ◌+◌, ◌*◌, ◌≤◌, ◌<◌}
use native.Mathlib.Omega.{arith}
use lib.ListN.{length, take, set, length-set}
use Rattle.model.specs.Limits.{row_width, most_contexts}
use Rattle.model.specs.Store.{Store, used, Built, full, built}
use Rattle.model.specs.Table.{Tables, tables, answers_of}
use Rattle.model.specs.Steps.{blanked, advance}
use Rattle.model.specs.Sound.{is_sound}
use Rattle.model.specs.Calls.{fault_of, done_by, refuses, end_of, look}
use Rattle.model.specs.TableFacts.{Few, Whole, HandFits}
use Rattle.model.specs.Phase.{Sounds}
use Rattle.model.specs.Entry.{Arrays, store_of, answers_in, size_fits, lent_fits, lists_fit, tables_of, lists_of, rows_lent, seen_of}
use Rattle.model.specs.declared.Lists.{Lists}
use Rattle.model.proofs.Laws.Lent.{good_four, rows_within, lists_fit_facts, lists_fit_true, lists_of_within}
use Rattle.model.proofs.Laws.Sounds.{sound_facts}
use Rattle.model.proofs.Laws.ReflectTable.{known_back}
use Rattle.model.proofs.Laws.Step as step
use Rattle.model.proofs.Laws.Took.{whole_few}
use Rattle.bank.specs.Rows.{answer_in, with_answer, Within}
use Rattle.bank.specs.Bank.{Bank, Kept}
use Rattle.bank.specs.Notes.{NotesFor, reps_in}
use Rattle.bank.proofs.Laws.Words.{used_of, length_with_rows, front_with_rows}
use Rattle.bank.proofs.Laws.Notes.{column_long}
use Rattle.bank_fill.specs.Adding.{added_row}
use Rattle.bank_fill.specs.Left.{Left}
use Rattle.bank_fill.specs.Saved.{Saved, PutBack}
use Rattle.std.specs.Prelude.{Result, Ok, Err, None, is_err}
use Rattle.model.specs.declared.refusal.Refusal.{Refusal}
use Rattle.model.specs.declared.refusal.Refusal.TheVariants.{RowsShort}
use Rattle.model.specs.Refusals.{reason_number}
use Rattle.bank_fill.proofs.Laws.Coming.{Comes, Stage, stage, not_full, store_room}
use Rattle.bank_fill.proofs.Laws.SavedWords.{undone}
use Rattle.bank_fill.proofs.Laws.Left.{left_words, left_then, left_rows, left_answer, ready_answered}
use Rattle.run_lists.specs.Members.{counts_in}
use Rattle.run_lists.specs.Changes.{asking}
use Rattle.run_lists.specs.Run.{Orderly, Run}
use Rattle.run_lists.proofs.Laws.Arrays.{few_states, few_rules, contexts_told}
use Rattle.run_lists.proofs.Laws.Lists.{core_orderly}
use Rattle.table.specs.Answers.{KnownRows}
use Rattle.table.proofs.Laws.Known.{known_answered}
use Rattle.table.proofs.Laws.Tied.{missing_tied}
use Rattle.table_verdict.proofs.Laws.Tied.{RepsOf, reps_tied}
use Rattle.sound.specs.Working.{WorkingOn}
use Rattle.step_search.specs.Spots.{Noted}
use Rattle.step_settle.specs.Stepped.{KnownTable}
use Rattle.step_settle.proofs.Laws.Ends.{Ends}
use Rattle.step_settle.proofs.Laws.Lists.{tables_left}
use Rattle.step.specs.InHand.{InHand}
use Rattle.call.specs.declared.Said.{Said}
use Rattle.call.specs.Said.{call_of}
use Rattle.call.specs.Calls.{CallAs}
use Rattle.call.proofs.Laws.Called.{called_short, called_left}
use Rattle.call_take.specs.Taken.{mark_of, built_for, given_by}
use Rattle.call_take.proofs.Laws.Ends.{ends_short, EndsLeft, ends_left, ends_leaves, ends_ok, kept_back}
use Rattle.call_take.proofs.Laws.Marked.{handling_marked}
use Rattle.call_take.proofs.Laws.Begun.{hand_for, given_tables, taken_for, taken_done, Begins, begins, begins_step}

-- a step that ended in a refusal, or in lists
pub short_by : (r : Result Lists Refusal) → is_err r ≡ true → (why : Refusal) × (r ≡ Err why)
short_by (Ok m) e = cc
short_by (Err why) e = (why, refl)

pub left_by : (r : Result Lists Refusal) → is_err r ≡ false → (m : Lists) × (r ≡ Ok m)
left_by (Ok m) e = (m, refl)
left_by (Err why) e = cc

-- WHAT IS GIVEN: sound tables in lists that fit, what the soundness test worked out, something said that no line refuses
pub record Given (ws : List ℕ) (l : Lists) (k : Said) (xs index table notes : List ℕ) : Type 0 where
  pub size : size_fits ws ≡ true
  pub lent : lent_fits ws l ≡ true
  pub sound : is_sound (tables_of ws l) ≡ true
  pub free : fault_of (tables_of ws l) (call_of k xs) ≡ 0
  pub working : WorkingOn ws l index table notes
  pub wide : most_contexts * (l.rules + 1) ≤ length table
  pub arrays : Arrays l

-- THE ROW FOR THE MARK is row j of the v rows then used
pub record BuiltAt (ws : List ℕ) (l : Lists) (k : Said) (xs : List ℕ) (j v : ℕ) (us ix : List ℕ) : Type 0 where
  pub y : Store
  pub is : built_for (tables_of ws l) k xs ≡ built j y
  pub begun : Begins (tables_of ws l) k j y (blanked (tables_of ws l).store y (tables_of ws l).answers)
  pub stands : Stage ws (counts_in l) l.used j y v us ix

-- the lists that the step is given are those with a record in hand: for an answer no row is new
handed : (ws : List ℕ) (l : Lists) (k : Said) (xs : List ℕ) (j v : ℕ) (y : Store) → built_for (tables_of ws l) k xs ≡ built j y → v ≡ used y →
    given_by l k j v ≡ asking l (hand_for k l.hand j) 0 v
handed ws l (Said.Answer m) xs j v y e p =
    let s : store_of ws (counts_in l) l.used ≡ y = cc in
    ap (asking l l.hand 0) (sym (used_of ws (counts_in l) l.used) ∙ ap used s ∙ sym p)
handed ws l (Said.Offer m) xs j v y e p = refl

module _ {ws : List ℕ} {l : Lists} {k : Said} {xs index table notes : List ℕ} (t : Given ws l k xs index table notes) where
  abbrev X : Tables
  X = tables_of ws l

  abbrev mark : ℕ
  mark = mark_of k + 1

  fits : lists_fit l ≡ true
  fits = t.lent

  sounds : Sounds X
  sounds = sound_facts X t.sound

  rows_held : row_width * l.used ≤ length ws
  rows_held = t.working.bank.finding.room

  -- ROWS RAN OUT
  module _ {us ix : List ℕ} (d : Comes ws (counts_in l) l.used (built_for (tables_of ws l) k xs) None us ix) where
    no_rows : (done_by X (call_of k xs) ≡ refuses 34) × Kept ws l.used us
    no_rows = let p = go (built_for X k xs) d in (taken_done X k xs ∙ p.0, p.1)
      where
        go : (b : Built) → Comes ws (counts_in l) l.used b None us ix → (end_of (taken_for X k b) ≡ refuses 34) × Kept ws l.used us
        go full c = (refl, c.came.1)
        go (built i y) c = absurd (let e = c.came.0 in let z : ◌≡◌ {A = ℕ} 0 1 = cc in omega arith)

    pub full_called : {vs after : List ℕ} → Saved ws l.used vs → PutBack us l.used vs after → CallAs ws l (call_of k xs) (Err RowsShort) after
    full_called {vs} {after} s p =
        subst (CallAs ws l (call_of k xs) (Err RowsShort)) (sym (undone ws l.used vs us after s no_rows.1 p))
        (called_short ws l (call_of k xs) t.size fits t.sound t.free RowsShort no_rows.0)

  -- BUILT
  pub built_at : {j v : ℕ} {us ix : List ℕ} → Comes ws (counts_in l) l.used (built_for (tables_of ws l) k xs) (added_row j v) us ix → BuiltAt ws l k xs j v us ix
  built_at {j} {v} {us} {ix} d = go (built_for X k xs) refl d
    where
      go : (b : Built) → built_for X k xs ≡ b → Comes ws (counts_in l) l.used b (added_row j v) us ix → BuiltAt ws l k xs j v us ix
      go full e c = absurd (not_full c)
      go (built i y) e c =
          let b = begins X sounds k xs t.free i y e in
          let s = stage ws (counts_in l) l.used y b.ext b.good c in
          let p : i ≡ j = sym s.0 in
          record { y = y; is = e ∙ ap (λ (n : ℕ). built n y) p; begun = subst (λ (n : ℕ). Begins X k n y (blanked X.store y X.answers)) p b; stands = s.1 }

  module _ {j v : ℕ} {us ix : List ℕ} (q : BuiltAt ws l k xs j v us ix) where
    abbrev y : Store
    y = q.y

    abbrev blank : List ℕ
    blank = blanked (store_of ws (counts_in l) l.used) y (answers_in l.used ws)

    -- the tables that the step is given
    abbrev Z : Tables
    Z = given_tables X k j y

    room : row_width * used y ≤ length ws
    room = store_room ws (counts_in l) l.used y q.begun.ext q.begun.good

    low : j < v
    low = omega (arith, q.begun.row.within, q.stands.count)

    long_us : length us ≡ length ws
    long_us = ap length q.stands.words ∙ length_with_rows ws (counts_in l) l.used y q.begun.ext (good_four y q.begun.good) room

    v_room : row_width * v ≤ length us
    v_room = q.stands.bank.finding.room

    pub row_within : Within us j
    row_within = omega (arith, low, v_room)

    kept : Kept ws l.used us
    kept =
        record {
          same_size = long_us;
          same_rows = ap (take (row_width * l.used)) q.stands.words ∙ front_with_rows ws (counts_in l) l.used y q.begun.ext (good_four y q.begun.good) room;
        }

    rows_left : Left ws (counts_in l) us y blank
    rows_left =
        subst (λ (zs : List ℕ). Left ws (counts_in l) zs y blank) (sym q.stands.words) (left_rows ws (counts_in l) l.used y q.begun.ext (good_four y q.begun.good) room)

    marked_left : Left ws (counts_in l) (with_answer us j mark) y (set blank j mark)
    marked_left =
        let e : answers_in v us ≡ blank = ap (λ (n : ℕ). answers_in n us) q.stands.count ∙ rows_left.answered in
        let a = left_answer us (counts_in l) v j mark low v_room in
        let b = subst (λ (z : Store). Left us (counts_in l) (with_answer us j mark) z (set (answers_in v us) j mark)) q.stands.store a in
        let c = subst (λ (w : List ℕ). Left us (counts_in l) (with_answer us j mark) y (set w j mark)) e b in
        left_then ws (counts_in l) us (with_answer us j mark) y y blank (set blank j mark) rows_left c (omega arith)

    -- the mark set, the lists given
    module _ {us' : List ℕ} (set_to : us' ≡ with_answer us j (mark_of k + 1)) {l' : Lists} (given : l' ≡ given_by l k j v) where
      abbrev hand : ℕ
      hand = hand_for k l.hand j

      is_asking_law : l' ≡ asking l hand 0 v
      is_asking_law = given ∙ handed ws l k xs j v y q.is q.stands.count

      long_now : length us' ≡ length ws
      long_now = ap length set_to ∙ length-set us (row_width * j + 1) mark ∙ long_us

      left_now : Left ws (counts_in l) us' y (set blank j mark)
      left_now = subst (λ (zs : List ℕ). Left ws (counts_in l) zs y (set blank j mark)) (sym set_to) marked_left

      back : tables_of us' l' ≡ Z
      back = ap (tables_of us') is_asking_law ∙ (λ i. tables (store i) (answers i) X.s X.t X.c hand 0 false)
        where
          store : store_of us' (counts_in l) v ≡ y
          store = ap (store_of us' (counts_in l)) q.stands.count ∙ left_now.store

          answers : answers_in v us' ≡ set blank j mark
          answers = ap (λ (n : ℕ). answers_in n us') q.stands.count ∙ left_now.answered

      -- WHAT THE STEP NEEDS
      bank_now : Bank us' (counts_in l') l'.used ix
      bank_now =
          let a : Bank (with_answer us j mark) (counts_in l) v ix = ready_answered us (counts_in l) v j mark low v_room q.stands.bank in
          subst (λ (o : Lists). Bank us' (counts_in o) o.used ix) (sym is_asking_law) (subst (λ (zs : List ℕ). Bank zs (counts_in l) v ix) (sym set_to) a)

      run_now : Run us' l'
      run_now =
          let f = lists_fit_facts l fits in
          record {
            fit = ap lists_fit is_asking_law ∙
                lists_fit_true (asking l hand 0 v) (record { letters = f.letters; states = f.states; rules = f.rules; contexts = f.contexts; accepted = omega arith });
            orderly = subst Orderly (sym back) (core_orderly Z q.begun.core);
          }

      hand_is : l'.hand ≡ hand
      hand_is = ap (λ (o : Lists). o.hand) is_asking_law

      few_contexts : Whole X → l.contexts < most_contexts
      few_contexts w = go (whole_few X w sounds.few)
        where
          go : Few X → l.contexts < most_contexts
          go (inl h) = omega (arith, h, contexts_told fits t.arrays)
          go (inr h) = let d = sounds.nearly.tidy in omega (arith, h, contexts_told fits t.arrays, d.few_s, d.few_t)

      reps_are : Whole X → RepsOf (answers_of X.store X.answers X.c) X.s X.t (reps_in notes)
      reps_are k =
          let w = t.working in
          let a = t.arrays in
          reps_tied w.observed l.s l.states w.s_in_t w.placed (few_states fits a) (omega (arith, w.placing.long, w.placing.few)) (few_rules fits a)
          (w.reps_by (missing_tied w.observed (few_rules fits a) ∙ known_back X k.known))

      noted : Whole X → Whole Z → Noted y (set blank j mark) X.s X.t X.c (reps_in notes)
      noted w z =
          handling_marked X w y q.begun.good q.begun.ext j mark q.begun.row.within q.begun.was hand z (reps_are w)
          (omega (arith, used_of ws (counts_in l) l.used, t.working.bank.finding.few))
          (omega (arith, q.begun.ext.room, t.working.notes_long, column_long notes 0 (omega arith)))

      in_hand : (l'.hand ≡ 0 → ⊥) → InHand us' l' (reps_in notes)
      in_hand d =
          let h = q.begun.held (λ z. d (hand_is ∙ z)) in
          record {
            whole = subst Whole (sym back) h.1;
            fits = subst (λ (z : Tables). HandFits z.store z.answers z.s z.t z.c z.hand) (sym back) h.2;
            room = subst (λ (o : Lists). o.contexts < most_contexts) (sym is_asking_law) (few_contexts h.0);
            noted = subst (λ (z : Tables). Noted z.store z.answers z.s z.t z.c (reps_in notes)) (sym back) (noted h.0 h.1);
          }

      known_table : l'.hand ≡ 0 → KnownTable us' l' table
      known_table z =
          let e = q.begun.empty (sym hand_is ∙ z) in
          let a : KnownRows X.store (set X.answers j mark) l.t l.rules l.c l.contexts table = known_answered t.working.observed j mark e.2 in
          let b = subst (λ (w : List ℕ). KnownRows X.store (set w j mark) l.t l.rules l.c l.contexts table) (sym e.1) a in
          let c = subst (λ (x : Store). KnownRows x (set blank j mark) l.t l.rules l.c l.contexts table) (sym e.0) b in
          let d = subst (λ (x : Tables). KnownRows x.store x.answers l.t l.rules l.c l.contexts table) (sym back) c in
          subst (λ (o : Lists). KnownRows (tables_of us' l').store (tables_of us' l').answers o.t o.rules o.c o.contexts table) (sym is_asking_law) d

      pub steps_on : Bank us' (counts_in l') l'.used ix × Run us' l' × NotesFor us' notes × (most_contexts * (l'.rules + 1) ≤ length table) ×
          ((l'.hand ≡ 0 → ⊥) → InHand us' l' (reps_in notes)) × (l'.hand ≡ 0 → KnownTable us' l' table) × (l'.asked ≡ 0) × (l'.accepted ≡ 0)
      steps_on = (
        bank_now,
        run_now,
        omega (arith, long_now, t.working.notes_long),
        omega (arith, ap (λ (o : Lists). o.rules) is_asking_law, t.wide),
        in_hand,
        known_table,
        ap (λ (o : Lists). o.asked) is_asking_law,
        ap (λ (o : Lists). o.accepted) is_asking_law,
      )

      -- THE STEP MADE
      done_by_law : done_by X (call_of k xs) ≡ end_of (advance (tables_of us' l'))
      done_by_law = taken_done X k xs ∙ ap (λ (b : Built). end_of (taken_for X k b)) q.is ∙ ap (λ (z : Tables). end_of (advance z)) (sym back)

      module _ {r : Result Lists Refusal} {vs : List ℕ} (d : Ends us' l' (advance (tables_of us' l')) r vs) where
        -- SHORT: the answer is set back, and the rows behind
        module _ {why : Refusal} (n : r ≡ Err why) where
          ran_short : (end_of (advance (tables_of us' l')) ≡ refuses (reason_number why)) × Kept us' l'.used vs
          ran_short = ends_short (advance (tables_of us' l')) d n

          kept_short : Kept (with_answer us j mark) v vs
          kept_short = subst (λ (zs : List ℕ). Kept zs v vs) set_to (subst (λ (o : Lists). Kept us' o.used vs) is_asking_law ran_short.1)

          pub short_within : Within vs j
          short_within = omega (arith, row_within, kept_short.same_size, length-set us (row_width * j + 1) mark)

          module _ {old : ℕ} (e : old ≡ answer_in us j) {vs' : List ℕ} (p : vs' ≡ with_answer vs j old) where
            kept_again : Kept ws l.used vs'
            kept_again =
                let more : l.used ≤ v = omega (arith, q.begun.ext.more, used_of ws (counts_in l) l.used, q.stands.count) in
                subst (Kept ws l.used) (sym p) (kept_back ws us vs l.used v j mark old kept more low v_room kept_short e)

            pub back_size : length vs' ≡ length ws
            back_size = kept_again.same_size

            pub back_held : row_width * l.used ≤ length vs'
            back_held = omega (arith, rows_held, back_size)

            pub short_called : {zs after : List ℕ} → Saved ws l.used zs → PutBack vs' l.used zs after → CallAs ws l (call_of k xs) r after
            short_called {zs} {after} s b =
                subst (λ (o : Result Lists Refusal). CallAs ws l (call_of k xs) o after) (sym n)
                (subst (CallAs ws l (call_of k xs) (Err why)) (sym (undone ws l.used zs vs' after s kept_again b))
                (called_short ws l (call_of k xs) t.size fits t.sound t.free why (done_by_law ∙ ran_short.0)))

        -- LEFT: the tables with which the step ends
        module _ {m : Lists} (n : r ≡ Ok m) where
          ended : EndsLeft us' l' (advance (tables_of us' l')) m vs
          ended = ends_left (advance (tables_of us' l')) d n

          abbrev Y : Tables
          Y = ended.left_tables

          ok : step.Left Z Y
          ok = ends_ok ended (subst (λ (z : Tables). step.StepOk Z (advance z)) (sym back) (begins_step X sounds k j y blank q.begun))

          lists : m ≡ lists_of l Y
          lists = ended.lists ∙ ap (λ (o : Lists). lists_of o Y) is_asking_law

          left_all : Left ws (counts_in l) vs Y.store Y.answers
          left_all =
              left_then ws (counts_in l) us' vs y Y.store (set blank j mark) Y.answers left_now
              (subst (λ (o : Lists). Left us' (counts_in o) vs Y.store Y.answers) is_asking_law ended.left) ok.keeps.ext.more

          pub left_fit : lists_fit m ≡ true
          left_fit =
              let f = ok.nearly.tidy in
              ap lists_fit lists ∙ lists_fit_true (lists_of l Y) (lists_of_within l Y ok.nearly.core.good.letters f.few_s f.few_t (omega (arith, f.few_s, f.few_t, f.few_c)))

          pub left_called : CallAs ws l (call_of k xs) r vs
          left_called =
              let counts : Y.store.counts ≡ counts_in l = ok.keeps.ext.counts ∙ q.begun.ext.counts in
              let held : used Y.store ≤ rows_lent ws = omega (arith, ok.nearly.core.good.fits, ok.keeps.ext.room, q.begun.ext.room) in
              subst (λ (o : Result Lists Refusal). CallAs ws l (call_of k xs) o vs) (sym n)
              (called_left ws l (call_of k xs) t.size fits t.sound t.free Y (done_by_law ∙ ends_leaves ended) m left_fit
              (ap (λ (z : Tables). seen_of (look z)) (ap (tables_of vs) lists ∙ tables_left ws vs l Y counts left_all)) lists vs
              (left_words ws (counts_in l) vs Y left_all (rows_within ws (used Y.store) held)))
