-- Sound tables with no question open propose: no answer is missing, so each transition has its representative, and the automaton by representatives is the one proposed.
use mathlib.Core.Path.{◌≡◌, ◌∙◌}
use mathlib.Core.Bool.{Bool, true, false, ◌&&◌}
use mathlib.Core.List.{List}
use Prim.Native.Nat.{ℕ}
use lib.Dec.{eqb}
use Rattle.model.specs.Table.{Tables, is_missing}
use Rattle.model.specs.Sound.{is_sound, contexts_few, is_t5, is_t6, is_t7, is_t8}
use Rattle.model.specs.Entry.{Arrays, lists_fit, tables_of}
use Rattle.model.specs.declared.Lists.{Lists}
use Rattle.model.proofs.Laws.Tests.{and_left, and_right}
use Rattle.model.proofs.Laws.ReflectTable.{idle_of, known_back}
use Rattle.bank.specs.Notes.{reps_in}
use Rattle.bank.proofs.Laws.Children.{bank_stored}
use Rattle.sound.specs.Working.{WorkingOn, prepared_fit, judged_fit}
use Rattle.sound.specs.Proposal.{Proposal}
use Rattle.sound.proofs.Laws.Working.{counted}
use Rattle.sound.proofs.Laws.Judged.{ruled, hypothesis_is, sound_parts}

module _ {ws : List ℕ} (l : Lists) {index table notes : List ℕ} (fit : lists_fit l ≡ true) (a : Arrays l) (w : WorkingOn ws l index table notes)
    (sound : is_sound (tables_of ws l) ≡ true) (idle : l.asked ≡ 0) where
  abbrev X : Tables
  X = tables_of ws l

  abbrev six : Bool
  six = contexts_few X && (is_t5 X && is_t6 X)

  parts : prepared_fit X && judged_fit X ≡ true
  parts = sound_parts X ∙ sound

  prepared : prepared_fit X ≡ true
  prepared = and_left (prepared_fit X) (judged_fit X) parts

  judged : judged_fit X ≡ true
  judged = and_right (prepared_fit X) (judged_fit X) parts

  table_fits_law : contexts_few X && (is_t5 X && is_t6 X) ≡ true
  table_fits_law = and_left six (is_t7 X && is_t8 X) judged

  known : is_missing X ≡ false
  known = known_back X (idle_of X idle (and_right (is_t7 X) (is_t8 X) (and_right six (is_t7 X && is_t8 X) judged))).1

  pub proposal : Proposal ws l (reps_in notes)
  proposal =
      record {
        rows = bank_stored w.bank;
        ruled = ruled (counted fit a) w prepared l.hand l.asked (eqb l.accepted 1) table_fits_law known;
        is = hypothesis_is (counted fit a) w prepared l.hand l.asked (eqb l.accepted 1) table_fits_law known;
      }
