-- How a step ends, as lists: a question about a row that was built; and what settling leaves of tables.
-- A question changes the rows used, the record in hand and the row asked for. Settling keeps the alphabet, T and C, and adds to rows and to S.
use mathlib.Core.Path.{◌≡◌, refl, sym, ap, subst, ◌∙◌}
use mathlib.Core.Bool.{true, false}
use mathlib.Core.List.{List}
use mathlib.Core.Option.{Option, none, some}
use Prim.Native.Nat.{ℕ, ◌≤◌, ◌<◌}
use native.Mathlib.Omega.{arith}
use lib.ListN.{length}
use Rattle.model.specs.Base.{In}
use Rattle.model.specs.Store.{Store, Frame, Built, full, built, used, frames_of, fill}
use Rattle.model.specs.Table.{Tables, tables, row_of}
use Rattle.model.specs.Steps.{Shortage, Ended, short, asks, proposes, Sought, none_unknown, unknown, seek, grow, blanked, opened, proposed, settled_by, settled}
use Rattle.model.specs.Facts.{Fits}
use Rattle.model.specs.Entry.{Arrays, lists_fit, tables_of, lists_of}
use Rattle.model.specs.declared.Lists.{Lists}
use Rattle.model.specs.declared.refusal.Refusal.{Refusal}
use Rattle.model.specs.declared.refusal.Refusal.TheVariants.{RowsShort}
use Rattle.model.specs.Refusals.{refused_by}
use Rattle.model.proofs.Laws.Fill.{fill_is}
use Rattle.model.proofs.Laws.Down.{context_fits}
use Rattle.model.proofs.Laws.Grow.{grown}
use Rattle.model.proofs.Laws.Settle.{Finds, all_known, first_unknown, seek_is}
use Rattle.model.proofs.Laws.Lent.{over_take, good_four}
use Rattle.std.specs.Prelude as std
use Rattle.std.specs.Prelude.{Result, Ok, Err, Some, None}
use Rattle.bank_fill.specs.declared.add.Added.{Added}
use Rattle.bank_fill.specs.Adding.{added_row}
use Rattle.bank_fill.specs.Left.{Left}
use Rattle.bank_fill.proofs.Laws.Coming.{Comes, store_room}
use Rattle.bank_fill.proofs.Laws.Filling.{reached}
use Rattle.bank_fill.proofs.Laws.Left.{left_rows}
use Rattle.run_lists.specs.Members.{counts_in, states_in, rules_in, contexts_in}
use Rattle.run_lists.specs.Changes.{asking}
use Rattle.run_lists.specs.Run.{Orderly, Run}
use Rattle.run_lists.proofs.Laws.Arrays.{few_letters, few_states, few_rules, few_contexts, states_told, rules_told, contexts_told}
use Rattle.step_settle.specs.Stepped.{EndedAs, OpenedAs}
use Rattle.step_settle.proofs.Laws.Lists.{kept_length, kept_over}

-- how a step ended, as a record: its parts are known from it
pub record Ends (ws : List ℕ) (l : Lists) (e : Ended) (r : Result Lists Refusal) (us : List ℕ) : Type 0 where
  pub ended : EndedAs ws l e r us

pub ends_by : {ws : List ℕ} {l : Lists} {e f : Ended} {r : Result Lists Refusal} {us : List ℕ} → e ≡ f → Ends ws l f r us → Ends ws l e r us
ends_by {ws} {l} {e} {f} {r} {us} p t = subst (λ (d : Ended). Ends ws l d r us) (sym p) t

-- A QUESTION: the lists as they were but for the rows used, the record in hand and the row asked for
asking_is : (l : Lists) → lists_fit l ≡ true → Arrays l → (y : Store) → y.counts ≡ counts_in l → (w : List ℕ) (h j n : ℕ) → n ≡ used y →
    asking l h j n ≡ lists_of l (tables y w (states_in l) (rules_in l) (contexts_in l) h j false)
asking_is l fit a y e w h j n p =
    λ i. record {
      letters = kept_length l.letters l.counts e (few_letters fit a) i;
      counts = kept_over l.letters l.counts e (few_letters fit a) i;
      accepted = 0;
      used = p i;
      states = states_told fit a i;
      s = sym (over_take l.states l.s (few_states fit a)) i;
      rules = rules_told fit a i;
      t = sym (over_take l.rules l.t (few_rules fit a)) i;
      contexts = contexts_told fit a i;
      c = sym (over_take l.contexts l.c (few_contexts fit a)) i;
      hand = h;
      asked = j;
    }

-- the tables with a record in hand
abbrev pub handed : (words : List ℕ) → Lists → (hand : ℕ) → Tables
handed ws l h = tables (tables_of ws l).store (tables_of ws l).answers (tables_of ws l).s (tables_of ws l).t (tables_of ws l).c h 0 false

module _ {ws : List ℕ} {l : Lists} (run : Run ws l) (a : Arrays l) (fs : List Frame) (fits : Fits (tables_of ws l).store fs) (h i : ℕ) (low : i < l.used)
    {us ix : List ℕ} (r : Result Lists Refusal) where
  no_rows : Comes ws (counts_in l) l.used (fill (tables_of ws l).store fs i) None us ix → r ≡ Err RowsShort → Ends ws l (opened (handed ws l h) (fill (tables_of ws l).store fs i)) r us
  no_rows d z = go (fill (tables_of ws l).store fs i) d
    where
      go : (b : Built) → Comes ws (counts_in l) l.used b None us ix → Ends ws l (opened (handed ws l h) b) r us
      go full p = record { ended = (ap refused_by z, p.came.1) }
      go (built j y) p = absurd (let e = p.came.0 in let k : ◌≡◌ {A = ℕ} 0 1 = cc in omega arith)

  asks_filled : {j n : ℕ} → Comes ws (counts_in l) l.used (fill (tables_of ws l).store fs i) (added_row j n) us ix → r ≡ Ok (asking l h j n) →
      Ends ws l (opened (handed ws l h) (fill (tables_of ws l).store fs i)) r us
  asks_filled {j} {n} d e =
      let f = reached ws (counts_in l) l.used fs i run.orderly.good fits low d in
      let y : Store = f.y in
      let w : List ℕ = blanked (tables_of ws l).store y (tables_of ws l).answers in
      let left = left_rows ws (counts_in l) l.used y f.filled.ext (good_four y f.filled.good) (store_room ws (counts_in l) l.used y f.filled.ext f.filled.good) in
      ends_by (ap (opened (handed ws l h)) f.is)
      (record {
        ended = (
          e ∙ ap Ok (asking_is l run.fit a y f.filled.ext.counts w h j n f.stands.count),
          subst (λ (vs : List ℕ). Left ws (counts_in l) vs y w) (sym f.stands.words) left,
        );
      })

  pub question_ends : (g : std.Option Added) → Comes ws (counts_in l) l.used (fill (tables_of ws l).store fs i) g us ix → OpenedAs l h g r →
      Ends ws l (opened (handed ws l h) (fill (tables_of ws l).store fs i)) r us
  question_ends None d o = no_rows d o
  question_ends (Some r) d o = asks_filled d o

-- WHAT SETTLING LEAVES of tables: the alphabet, T and C; rows and S may be more
pub record Grows (x y : Tables) : Type 0 where
  pub counts : y.store.counts ≡ x.store.counts
  pub rows : used x.store ≤ used y.store
  pub longer : length x.s ≤ length y.s
  pub same_t : y.t ≡ x.t
  pub same_c : y.c ≡ x.c

pub data Settles (x : Tables) : Ended → Type 0 where
  settles_short : {k : Shortage} → Settles x (short k)
  settles_asking : {y : Tables} → Grows x y → Settles x (asks y)
  settles_proposing : {y : Tables} → Grows x y → Settles x (proposes y)

module _ (x : Tables) (o : Orderly x) where
  settles_grown : (g : Option (List ℕ)) → grow (row_of x) x.s x.t ≡ g → Settles x (proposed x g)
  settles_grown none e = settles_short
  settles_grown (some s) e =
      let r : used x.store ≤ used x.store = omega arith in
      settles_proposing (record { counts = refl; rows = r; longer = (grown (row_of x) x.s x.t s e).longer; same_t = refl; same_c = refl })

  settles_filled : (c i : ℕ) → In i x.t → In c x.c → (b : Built) → fill x.store (frames_of x.store c) i ≡ b → Settles x (opened x b)
  settles_filled c i a v full e = settles_short
  settles_filled c i a v (built j y) e =
      let k = o.context c v in
      let f = context_fits x.store o.good c k.within k.hole in
      let m = fill_is (frames_of x.store c) x.store o.good f i (o.row i a).within j y e in
      let r : length x.s ≤ length x.s = omega arith in
      settles_asking (record { counts = m.ext.counts; rows = m.ext.more; longer = r; same_t = refl; same_c = refl })

  pub settles : Settles x (settled x)
  settles = go (seek x.store x.answers x.c x.t) (seek_is x.store x.answers x.c x.t)
    where
      go : (r : Sought) → Finds x.store x.answers x.c x.t r → Settles x (settled_by x r)
      go none_unknown (all_known n) = settles_grown (grow (row_of x) x.s x.t) refl
      go (unknown c i) (first_unknown a v z) = settles_filled c i a v (fill x.store (frames_of x.store c) i) refl
