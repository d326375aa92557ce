-- The learner's order of choices: the spot is leftmost and innermost, the question is the first unknown, representatives come in T's order.
-- Each is a law of the search that makes the choice; only the spot needs sound tables, for their store.
use Rattle.model.specs.Promise.{Ordered}
use Rattle.model.proofs.Laws.Order.{spot_ordered, question_ordered, none_open_ordered, growth_ordered}
use Rattle.model.proofs.Laws.ReflectLists.{record_of}
use Rattle.model.proofs.Laws.Sounds.{sound_facts}

pub ordered : Ordered
ordered =
    record {
      spot = λ x h e r n. spot_ordered x.s x.store (sound_facts x e).nearly.core.good h (record_of x.store h r) n;
      question = question_ordered;
      none_open = none_open_ordered;
      growth = growth_ordered;
    }
