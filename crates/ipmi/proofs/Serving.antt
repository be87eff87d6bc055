-- What a message leaves, by what the code was told of it.
use mathlib.Core.Path.{◌≡◌, refl, ap, ◌∙◌}
use mathlib.Core.List.{List}
use Prim.Native.Nat.{ℕ}
use Rattle.std.specs.Prelude.{Result, Ok, Err}
use Rattle.session.specs.Machine.{Setup, Machine}
use Rattle.messages.specs.declared.Pair.{Pair}
use Rattle.messages.specs.declared.Refusal.{Refusal}
use Rattle.messages.specs.declared.Refusal.TheVariants.{Short, Foreign, Malformed}
use Rattle.messages.specs.Messages.{Taken, Command, taken_as, refusal, opened, opened_as}
use Rattle.mailbox.specs.Mediator.{mediate}
use Rattle.ipmi.specs.Served.{Served, untouched, mediated, served_as, served}

-- by what became of it
pub served_as_lem : (setup : Setup) (pair : Pair) (message : List ℕ) (m : Machine) (t : Taken) → t ≡ taken_as pair m.session.version message
    → served_as t setup message m ≡ served setup pair message m
unfolding served
served_as_lem setup pair message m t e = ap (λ (q : Taken). served_as q setup message m) e

-- by its registers, or by the check that refused it
abbrev left : Result (List ℕ) Refusal → Setup → List ℕ → Machine → Served
left (Ok registers) setup message m = mediated message (mediate setup registers m)
left (Err refused) setup message m = untouched (refusal refused message) m

left_as : (setup : Setup) (message : List ℕ) (m : Machine) (t : Taken)
    → left (opened_as t m.session.version message) setup message m ≡ served_as t setup message m
left_as setup message m Command = refl
left_as setup message m (Err Short) = refl
left_as setup message m (Err Foreign) = refl
left_as setup message m (Err Malformed) = refl

left_opened : (setup : Setup) (pair : Pair) (message : List ℕ) (m : Machine) (o : Result (List ℕ) Refusal) → o ≡ opened pair m.session.version message
    → left o setup message m ≡ served setup pair message m
left_opened setup pair message m o e =
    let t = taken_as pair m.session.version message in
    ap (λ (q : Result (List ℕ) Refusal). left q setup message m) e ∙ left_as setup message m t ∙ served_as_lem setup pair message m t refl

-- a message that was taken
pub served_command : (setup : Setup) (pair : Pair) (message : List ℕ) (m : Machine) (registers : List ℕ)
    → Ok registers ≡ opened pair m.session.version message → mediated message (mediate setup registers m) ≡ served setup pair message m
served_command setup pair message m registers = left_opened setup pair message m (Ok registers)

-- one that was refused
pub served_refused : (setup : Setup) (pair : Pair) (message : List ℕ) (m : Machine) (refused : Refusal)
    → Err refused ≡ opened pair m.session.version message → untouched (refusal refused message) m ≡ served setup pair message m
served_refused setup pair message m refused = left_opened setup pair message m (Err refused)
