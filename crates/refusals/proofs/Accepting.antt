-- What a command that no check refused tells, and what its arguments then name.
use Rattle.std.proofs.Common.{◌≡◌, ◌+◌, ◌≤◌, ℕ, Bool, true, false, cond, not, ◌&&◌, List, Err, refl, arith}
use Rattle.std.proofs.lemmas.Bool.{not-false}
use Rattle.std.proofs.lemmas.Bool.Decides.{nat_tests}
use Rattle.session.specs.declared.Session.{Session}
use Rattle.refusals.specs.declared.Reason.{Reason}
use Rattle.refusals.specs.declared.Reason.TheVariants.{System, Repeated, Unknown, Suspended, Windowless, Argument}
use Rattle.refusals.specs.declared.Needs.{Needs}
use Rattle.registers.specs.Registers.{sequence_of}
use Rattle.refusals.specs.Refusals.{Checked, Accepted, blocks_named, is_previous, is_write, needs_number, needs_access, needs_window, reason_for}

-- every check of the table has passed
pub record Passed (sound : Bool) (s : Session) (registers : List ℕ) (known : Bool) (needs : Needs) (broken : Bool) : Type 0 where
  pub sounds : sound ≡ true
  pub fresh : (needs_number needs && is_previous s.previous (sequence_of registers)) ≡ false
  pub knows : known ≡ true
  pub awake : (needs_access needs && s.suspended) ≡ false
  pub windowed : (needs_window needs && not (is_write s.window)) ≡ false
  pub argued : broken ≡ false

pub passed : (sound : Bool) (s : Session) (registers : List ℕ) (known : Bool) (needs : Needs) (broken : Bool)
    → reason_for sound s registers known needs broken ≡ Accepted → Passed sound s registers known needs broken
unfolding reason_for
passed sound s registers known needs broken e =
    let a = by (not sound) System _ e in
    let b = by (needs_number needs && is_previous s.previous (sequence_of registers)) Repeated _ a.1 in
    let c = by (not known) Unknown _ b.1 in
    let d = by (needs_access needs && s.suspended) Suspended _ c.1 in
    let f = by (needs_window needs && not (is_write s.window)) Windowless _ d.1 in
    let g = by broken Argument Accepted f.1 in
    record {
      sounds = not-false sound a.0;
      fresh = b.0;
      knows = not-false known c.0;
      awake = d.0;
      windowed = f.0;
      argued = g.0;
    }
  where
    by : (t : Bool) (r : Reason) (rest : Checked) → cond t (Err r) rest ≡ Accepted → (t ≡ false) × (rest ≡ Accepted)
    by true r rest q = absurd cc
    by false r rest q = (refl, q)

-- and the other way round
pub accepts : (sound : Bool) (s : Session) (registers : List ℕ) (known : Bool) (needs : Needs) (broken : Bool)
    → Passed sound s registers known needs broken → reason_for sound s registers known needs broken ≡ Accepted
unfolding reason_for
accepts sound s registers known needs broken p = rw (p.sounds, p.fresh, p.knows, p.awake, p.windowed, p.argued)

-- SYSTEM_ERROR is the first check's alone
pub never_system : (s : Session) (registers : List ℕ) (known : Bool) (needs : Needs) (broken : Bool) → reason_for true s registers known needs broken ≡ Err System → ⊥
unfolding reason_for
never_system s registers known needs broken =
    past _ Repeated _ (λ q. cc)
    (past _ Unknown _ (λ q. cc) (past _ Suspended _ (λ q. cc) (past _ Windowless _ (λ q. cc) (past _ Argument Accepted (λ q. cc) (λ q. cc)))))
  where
    past : (t : Bool) (r : Reason) (rest : Checked) → (r ≡ System → ⊥) → (rest ≡ Err System → ⊥) → cond t (Err r) rest ≡ Err System → ⊥
    past true r rest n m q = n cc
    past false r rest n m q = m q

-- ---- the blocks that the arguments name lie in the window
pub named_within : (s : Session) (registers : List ℕ) → (blocks_named s registers).inside ≡ true
    → (blocks_named s registers).start + (blocks_named s registers).count ≤ s.size
named_within s registers e = grind (arith, nat_tests)
