-- What `pending` answers, by the kept numbers and the marks.
use mathlib.Core.Path.{◌≡◌}
use mathlib.Core.Bool.{true, false}
use mathlib.Core.Logic.{⊎_elim}
use Rattle.units.proofs.Cases.{decided}
use Rattle.session.specs.declared.Session.{Session}
use Rattle.session.specs.Marks.{counts_of}
use Rattle.std.specs.Prelude.{None}
use Rattle.soundness.specs.Soundness.{counts_sound}
use Rattle.soundness.specs.Pending.{blocks_counted, actions_counted, marked_work, pending_in}
use Rattle.soundness.proofs.Counting.{counts_same, same_counts_lem}

module _ (s : Session) where
  pub pending_right : s.counts ≡ counts_of s.marks → pending_in s ≡ marked_work (blocks_counted s.counts) (actions_counted s.counts)
  pending_right e = rw (same_counts_lem s.counts (counts_of s.marks) e)

  pub pending_wrong : (s.counts ≡ counts_of s.marks → ⊥) → pending_in s ≡ None
  pending_wrong apart =
      ⊎_elim (λ (e : counts_sound s ≡ true). absurd (apart (counts_same s.counts (counts_of s.marks) e))) (λ (e : counts_sound s ≡ false). rw e)
      (decided (counts_sound s))
