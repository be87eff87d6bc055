-- A suspend or resume answers yes, or no and leaves the session as it was.
use mathlib.Core.Bool.{Bool, true, false}
use Rattle.session.specs.declared.Session.{Session}
use Rattle.session.specs.Suspension.{answer}

-- what holds of both sessions holds of the one that is left
pub either_way : (P : Session → Type 0) (acts : Bool) (s t : Session) → P s → P t → P (answer acts s t).session
either_way P true s t p q = q
either_way P false s t p q = p
