-- Sound tables, read: what the soundness test leaves gives the index and, where no question is open, the proposal by its representatives.
use Rattle.std.proofs.Common.{List, ℕ, true, ◌≡◌, sym, subst}
use Rattle.model.specs.Sound.{is_sound}
use Rattle.model.specs.Entry.{Arrays, lists_fit, size_fits, tables_of}
use Rattle.model.specs.declared.Lists.{Lists}
use Rattle.bank.specs.Notes.{reps_in}
use Rattle.sound.specs.Working.{WorkingOn}
use Rattle.sound.specs.Proposal.{Proposal}
use Rattle.sound.proofs.Laws.Proposal.{proposal}
use Rattle.call_read.specs.Read.{Read}

pub read_by : (ws : List ℕ) (l : Lists) → size_fits ws ≡ true → lists_fit l ≡ true → Arrays l → {index table notes : List ℕ} → WorkingOn ws l index table notes → is_sound (tables_of ws l) ≡ true →
    {reps : List ℕ} → reps ≡ reps_in notes → Read ws l index reps
read_by ws l z f a w e r =
    record {
      size = z;
      lent = f;
      sound = e;
      bank = w.bank;
      proposed = λ idle. subst (Proposal ws l) (sym r) (proposal l f a w e idle);
    }
