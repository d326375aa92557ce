-- A call tried on the first n words, the used rows among them: refused with 34 it leaves the words, and else it is the call on all rows
-- (model's LentPart). Where no more words are lent it is the call itself. One law says both: `first_as`.
use mathlib.Core.Path.{◌≡◌, refl, sym, ap, subst, ◌∙◌}
use mathlib.Core.Logic.{◌≢◌}
use mathlib.Core.Bool.{Bool, true, false}
use mathlib.Core.List.{List, ◌++◌, append-nil}
use Prim.Native.Nat.{ℕ, ◌*◌, ◌≤◌, ◌<◌}
use native.Mathlib.Omega.{arith}
use lib.ListN.{length, take, drop, take-append-drop}
use lib.Seq.{take-length, drop-length}
use lib.Dec.{leb}
use borrow.Author.Tests.{leb-true, leb-false}
use Rattle.std.specs.Prelude.{Result, Ok, Err}
use Rattle.model.specs.Limits.{row_width}
use Rattle.model.specs.Calls.{Call, Outcome, refuses, leaves, number_of}
use Rattle.model.specs.Entry.{size_fits, lent_fits, seen_by, words_by, call_by}
use Rattle.model.specs.Refusals.{refused_by}
use Rattle.model.specs.declared.Lists.{Lists}
use Rattle.model.specs.declared.refusal.Refusal.{Refusal}
use Rattle.model.specs.declared.Seen.{Seen}
use Rattle.model.proofs.Laws.LentPart.{seen_part, lists_part, words_part}
use Rattle.call.specs.Calls.{CallAs, done_seen}
use Rattle.call_room.specs.Tried.{FirstAs}

-- the number told of a call
done_number : (r : Result Lists Refusal) → (done_seen r).number ≡ refused_by r
done_number (Ok m) = refl
done_number (Err e) = refl

seen_number : (o : Outcome) → (seen_by o).number ≡ number_of o
seen_number (refuses n) = refl
seen_number (leaves y) = refl

refused_words : (ws : List ℕ) (o : Outcome) → number_of o ≡ 34 → words_by ws o ≡ ws
refused_words ws (refuses n) e = refl
refused_words ws (leaves y) e = absurd (omega (arith, e))

module _ (ws : List ℕ) (l : Lists) (k : Call) (r : Result Lists Refusal) (us : List ℕ) where
  -- n words: what the call does there, said of all words
  abbrev Said : (n : ℕ) → Type 0
  Said n = CallAs (take n ws) l k r us → FirstAs ws n l k r (us ++ drop n ws)

  -- all words: the call itself
  all_as : Said (length ws)
  all_as c = subst (FirstAs ws (length ws) l k r) (sym (ap (λ (vs : List ℕ). us ++ vs) (drop-length ws) ∙ append-nil us)) (whole (subst (λ (vs : List ℕ). CallAs vs l k r us) (take-length ws) c))
    where
      whole : CallAs ws l k r us → FirstAs ws (length ws) l k r us
      whole d =
          record {
            short = λ e. d.words ∙ refused_words ws (call_by ws l k) (sym (sym (done_number r) ∙ ap (λ (s : Seen). s.number) d.seen ∙ seen_number (call_by ws l k)) ∙ e);
            done = λ e. d;
            all = λ h. d;
          }

  -- m rows and the used ones among them: short of rows, or as the call on all
  module _ (size : size_fits ws ≡ true) (lent : lent_fits ws l ≡ true) (m : ℕ) (some : 1 ≤ m) (held : l.used ≤ m) where
    module _ (more : row_width * m < length ws) where
      enough : row_width * m ≤ length ws
      enough = omega arith

      abbrev part : List ℕ
      part = take (row_width * m) ws

      abbrev behind : List ℕ → List ℕ
      behind zs = zs ++ drop (row_width * m) ws

      part_as : Said (row_width * m)
      part_as c =
          record {
            short = λ e. ap behind (c.words ∙ refused_words part (call_by part l k) (sym number ∙ e)) ∙ take-append-drop (row_width * m) ws;
            done = λ d.
                let d' : number_of (call_by part l k) ≢ 34 = λ e. d (number ∙ e) in
                record {
                  seen = c.seen ∙ sym (seen_part ws l m size lent some enough held k d');
                  lists = c.lists ∙ sym (lists_part ws l m size lent some enough held k d');
                  words = ap behind c.words ∙ sym (words_part ws l m size lent some enough held k d');
                  fit = c.fit;
                };
            all = λ h. absurd (omega arith);
          }
        where
          number : refused_by r ≡ number_of (call_by part l k)
          number = sym (done_number r) ∙ ap (λ (s : Seen). s.number) c.seen ∙ seen_number (call_by part l k)

    -- as many as are lent
    pub first_as : (n : ℕ) → (length ws ≤ row_width * m → n ≡ length ws) → (row_width * m < length ws → n ≡ row_width * m) → Said n
    first_as n a b = go (leb (length ws) (row_width * m)) refl
      where
        go : (t : Bool) → leb (length ws) (row_width * m) ≡ t → Said n
        go true p = subst Said (sym (a (leb-true (length ws) (row_width * m) p))) all_as
        go false p = let h = leb-false (length ws) (row_width * m) p in subst Said (sym (b h)) (part_as h)
