-- Filling on trees: filled rows, rows of answers and opened questions are those of plugged trees, and a row of answers is what was said of them.
-- The frames of a context lead from a record to a row exactly if that row has the plugged tree, and a tree has one row.
use mathlib.Core.Path.{◌≡◌, refl, sym, ap, ◌∙◌, subst}
use mathlib.Core.Logic.{◌≢◌}
use mathlib.Core.List.{List}
use Prim.Native.Nat.{ℕ, ◌+◌, ◌<◌}
use native.Mathlib.Omega.{arith}
use native.Mathlib.Decide.{ℕ_discrete}
use Rattle.model.specs.Base.{In}
use Rattle.model.specs.Store.{Store, used, Frame, built, fill, filled_row, frames_of}
use Rattle.model.specs.Terms.{Tree, tree_at}
use Rattle.model.specs.Table.{Tables, answer_at, answer_in}
use Rattle.model.specs.Facts.{IsRecord, IsContext, Fits}
use Rattle.model.specs.TableFacts.{Core}
use Rattle.model.specs.Calls.{number_of}
use Rattle.model.specs.Run.{meant, started_run, after, Said, said, said_in}
use Rattle.model.specs.Promise.{Holds}
use Rattle.model.specs.Plug.{framed, plug_at, StoredAbout, in_row, nowhere, FillsTrees, AsksPlugs, RowsSaid}
use Rattle.model.proofs.Laws.Frames.{leads_within}
use Rattle.model.proofs.Laws.Filled.{filled_leads, leads_filled}
use Rattle.model.proofs.Laws.Down.{context_fits}
use Rattle.model.proofs.Laws.Plug.{leads_framed, framed_leads, fill_framed, plug_context}
use Rattle.model.proofs.Laws.ReflectLists.{record_of, context_of}
use Rattle.model.proofs.Laws.Sounds.{sound_facts}
use Rattle.model.proofs.Laws.Taken.{call_taken}
use Rattle.model.proofs.Laws.Along.{lent_sound}
use Rattle.model.proofs.Laws.Asks.{asks_plugged}
use Rattle.model.proofs.Promises.Sound.{stays_sound}
use Rattle.model.proofs.Promises.History.{answers_taken}

-- FILLS TREES
module _ (x : Tables) (k : Core x) (c : ℕ) (ic : IsContext x.store c) where
  abbrev frames : List Frame
  frames = frames_of x.store c

  fits : Fits x.store frames
  fits = context_fits x.store k.good c ic.within ic.hole

  -- the plugged tree is the frames around the record's
  plugs : (i : ℕ) → plug_at x.store c i ≡ framed x.store frames (tree_at x.store i)
  plugs i = plug_context x.store k.good (tree_at x.store i) c ic

  made : (i j : ℕ) (y : Store) → i < used x.store → fill x.store frames i ≡ built j y → tree_at y j ≡ plug_at x.store c i
  made i j y u e = fill_framed x.store k.good frames fits i u j y e ∙ sym (plugs i)

  module _ (i : ℕ) (r : IsRecord x.store i) where
    abbrev row : ℕ
    row = filled_row x.store frames i

    found : row ≢ 0 → (row < used x.store) × (tree_at x.store row ≡ plug_at x.store c i)
    found n =
        let l = filled_leads x.store k.good frames fits i r.some n in
        (leads_within x.store frames i row r.within l, leads_framed x.store k.good frames i row l ∙ sym (plugs i))

    absent : row ≡ 0 → (j : ℕ) → j < used x.store → tree_at x.store j ≢ plug_at x.store c i
    absent z j u e =
        let l = framed_leads x.store k.good frames fits i j r.within u (e ∙ plugs i) in
        let f = leads_filled x.store k.good frames fits i j r.some l in
        omega (arith, z, f.0, f.1)

    answer : StoredAbout x (plug_at x.store c i) (answer_in x.store x.answers c i)
    answer = go (ℕ_discrete row 0)
      where
        go : Dec (row ≡ 0) → StoredAbout x (plug_at x.store c i) (answer_at x.answers row)
        go (yes z) = subst (StoredAbout x (plug_at x.store c i)) (sym (ap (answer_at x.answers) z ∙ k.first)) (nowhere (absent z))
        go (no n) = let f = found n in in_row row f.0 f.1

pub fills_trees : FillsTrees
fills_trees x e =
    let k = (sound_facts x e).nearly.core in
    record {
      made = λ c i j y q u b. made x k c (context_of x.store c q) i j y u b;
      found = λ c i q r n. found x k c (context_of x.store c q) i (record_of x.store i r) n;
      absent = λ c i q r z. absent x k c (context_of x.store c q) i (record_of x.store i r) z;
      answer = λ c i q r. answer x k c (context_of x.store c q) i (record_of x.store i r);
    }

-- ASKS PLUGS: a call that leaves tables is the step that the law follows
pub asks_plugs : AsksPlugs
asks_plugs x begun y k e b p n =
    let t = call_taken x k (ap number_of p) in
    asks_plugged x begun y (sound_facts x e) k t.faultless b (t.done ∙ sym t.outcome ∙ p) n

-- ROWS SAID: what is stored about a record is what was said of it
module _ (x : Tables) (es : List Said) (h : Holds x es) where
  stored_said : (t : Tree) (v : ℕ) → StoredAbout x t v → v ≢ 0 → (m : ℕ) × In (said t m) es × (v ≡ m + 1)
  stored_said t v (in_row i u e) n =
      let s = h.said_so i u n in
      (s.0.mark, subst (λ (b : Tree). In (said b s.0.mark) es) (sym s.2 ∙ e) s.1, s.3)
  stored_said t v (nowhere n) z = absurd (z refl)

  said_stored : (t : Tree) (v : ℕ) → StoredAbout x t v → (m : ℕ) → In (said t m) es → v ≡ m + 1
  said_stored t v (in_row i u e) m a =
      let s = h.stored (said t m) a in
      let r = record_of x.store s.0 s.1 in
      ap (answer_at x.answers) (h.one_row i s.0 u r.within (e ∙ sym s.2)) ∙ s.3
  said_stored t v (nowhere n) m a =
      let s = h.stored (said t m) a in
      absurd (n s.0 (record_of x.store s.0 s.1).within s.2)

pub rows_said : RowsSaid
rows_said ws ns old ks c i e ic r =
    let x = meant (after (started_run ws ns old) ks) in
    let es = said_in (started_run ws ns old) ks in
    let k = (lent_sound (after (started_run ws ns old) ks) (stays_sound ws ns old ks e)).sounds.nearly.core in
    let h = answers_taken ws ns old ks e in
    let a = answer x k c (k.held.context c ic) i (record_of x.store i r) in
    record { known = stored_said x es h (plug_at x.store c i) _ a; stored = said_stored x es h (plug_at x.store c i) _ a }
