-- What a message leaves of a record, by what the code was told of it, and beside the session that the record stands for: specs/Messages.antt.
use mathlib.Core.Path.{◌≡◌, refl, sym, ap, subst, ◌∙◌}
use mathlib.Core.Bool.{true, false}
use mathlib.Core.List.{List, []}
use Prim.Native.Nat.{ℕ, ◌≤◌}
use native.Mathlib.Nat.{le_refl}
use lib.Dec.{lit≤}
use lib.ListN.{length}
use Rattle.std.specs.Prelude.{Result, Ok, Err}
use Rattle.session.specs.Machine.{Setup, lent}
use Rattle.messages.specs.declared.Pair.{Pair}
use Rattle.messages.specs.declared.Refusal.{Refusal}
use Rattle.messages.specs.declared.Refusal.TheVariants.{Short, Foreign, Malformed}
use Rattle.messages.specs.Messages.{Taken, Command, taken_as, registers_of, headed, refusal, response_of, opened, opened_as, laid}
use Rattle.messages.proofs.Cells.{filled_up}
use Rattle.mailbox.specs.Mediator.{mediate}
use Rattle.ipmi.proofs.Few.{few_bytes}
use Rattle.ipmi.specs.Served.{Served, served_as, served}
use Rattle.board.specs.declared.Record.{Record}
use Rattle.board.specs.Calls.{commanded}
use Rattle.ipmiboard.specs.declared.MessageReply.{MessageReply}
use Rattle.ipmiboard.specs.Messages.{Messaged, untouched_record, mediated_record, messaged_as, messaged_record, reply_of, Tells, MessageFollows, MessageIrregular}
use Rattle.board.specs.Record.{is_regular, session_of, record_of}
use Rattle.board.proofs.Answers.{nothing_lost}
use Rattle.board.proofs.Regular.{of_session}

-- by its registers, or by the check that refused it
abbrev left : Result (List ℕ) Refusal → Setup → List ℕ → Record → List ℕ → List ℕ → List ℕ → Messaged
left (Ok registers) setup message h flash worn memory = mediated_record message (commanded setup h registers flash worn memory)
left (Err refused) setup message h flash worn memory = untouched_record (laid (refusal refused message)) h flash memory

left_as : (setup : Setup) (message : List ℕ) (h : Record) (flash worn memory : List ℕ) (t : Taken)
    → left (opened_as t h.version message) setup message h flash worn memory ≡ messaged_as t setup message h flash worn memory
left_as setup message h flash worn memory Command = refl
left_as setup message h flash worn memory (Err Short) = refl
left_as setup message h flash worn memory (Err Foreign) = refl
left_as setup message h flash worn memory (Err Malformed) = refl

left_opened : (setup : Setup) (pair : Pair) (message : List ℕ) (h : Record) (flash worn memory : List ℕ) (o : Result (List ℕ) Refusal)
    → o ≡ opened pair h.version message → left o setup message h flash worn memory ≡ messaged_record setup pair message h flash worn memory
unfolding messaged_record
left_opened setup pair message h flash worn memory o e =
    ap (λ (q : Result (List ℕ) Refusal). left q setup message h flash worn memory) e
    ∙ left_as setup message h flash worn memory (taken_as pair h.version message)

-- a message that was taken
pub messaged_command : (setup : Setup) (pair : Pair) (message : List ℕ) (h : Record) (flash worn memory : List ℕ) (registers : List ℕ)
    → Ok registers ≡ opened pair h.version message
    → mediated_record message (commanded setup h registers flash worn memory) ≡ messaged_record setup pair message h flash worn memory
messaged_command setup pair message h flash worn memory registers = left_opened setup pair message h flash worn memory (Ok registers)

-- one that was refused
pub messaged_refused : (setup : Setup) (pair : Pair) (message : List ℕ) (h : Record) (flash worn memory : List ℕ) (refused : Refusal)
    → Err refused ≡ opened pair h.version message
    → untouched_record (laid (refusal refused message)) h flash memory ≡ messaged_record setup pair message h flash worn memory
messaged_refused setup pair message h flash worn memory refused = left_opened setup pair message h flash worn memory (Err refused)

-- ---- beside the session

-- a response of 16 bytes at most, as the code lays it out
tells : (response : List ℕ) (actions : ℕ) → length response ≤ 16 → Tells response actions (reply_of (laid response) actions)
tells response actions h = record { bytes = filled_up 16 16 response h (le_refl 16); long = refl; few = h; acted = refl }

-- a message leaves a regular record as it leaves the session
as_session : Record → Messaged → Served → Type 0
as_session h o s =
    (o.held ≡ record_of h.previous s.machine.session)
    × (o.reply ≡ reply_of (laid s.response) s.actions)
    × (o.flash ≡ s.machine.flash)
    × (o.memory ≡ s.machine.memory)
    × (is_regular o.held ≡ true)

same_as : (setup : Setup) (message : List ℕ) (h : Record) (flash worn memory : List ℕ) → is_regular h ≡ true → (t : Taken)
    → as_session h (messaged_as t setup message h flash worn memory) (served_as t setup message (lent (session_of h) flash worn memory))
unfolding as_session commanded
same_as setup message h flash worn memory e (Err Short) = (sym (nothing_lost.1 h e), refl, refl, refl, e)
same_as setup message h flash worn memory e (Err Foreign) = (sym (nothing_lost.1 h e), refl, refl, refl, e)
same_as setup message h flash worn memory e (Err Malformed) = (sym (nothing_lost.1 h e), refl, refl, refl, e)
same_as setup message h flash worn memory e Command =
    let o = mediate setup (registers_of h.version message) (lent (session_of h) flash worn memory) in
    rw e (refl, refl, refl, refl, of_session h.previous o.machine.session)

pub message_follows : MessageFollows
unfolding as_session messaged_record served
message_follows setup pair message h flash worn memory e =
    let s = served setup pair message (lent (session_of h) flash worn memory) in
    let same = same_as setup message h flash worn memory e (taken_as pair h.version message) in (
      same.0,
      subst (Tells s.response s.actions) (sym same.1) (tells s.response s.actions (few_bytes setup pair message (lent (session_of h) flash worn memory))),
      same.2,
      same.3,
      same.4,
    )

-- ---- of a record with a number that stands for nothing
as_it_was : Record → List ℕ → List ℕ → List ℕ → Taken → Messaged → Type 0
as_it_was h message flash memory t o =
    (o.held ≡ h)
    × (o.flash ≡ flash)
    × (o.memory ≡ memory)
    × (t ≡ Command → Tells (headed message 0x84) 0 o.reply)
    × ((refused : Refusal) → t ≡ Err refused → Tells (refusal refused message) 0 o.reply)

-- the check that refused it
of_refusal : (message : List ℕ) (reply : MessageReply) (r refused : Refusal) → ◌≡◌ {A = Taken} (Err r) (Err refused) → Tells (refusal r message) 0 reply
    → Tells (refusal refused message) 0 reply
of_refusal message reply r refused e = subst (λ (q : Refusal). Tells (refusal q message) 0 reply) cc

irregular_as : (setup : Setup) (message : List ℕ) (h : Record) (flash worn memory : List ℕ) → is_regular h ≡ false → (t : Taken)
    → as_it_was h message flash memory t (messaged_as t setup message h flash worn memory)
unfolding as_it_was commanded response_of
irregular_as setup message h flash worn memory e Command = rw e (refl, refl, refl, λ _. tells (headed message 0x84) 0 (lit≤ tt), λ refused n. cc)
irregular_as setup message h flash worn memory e (Err Short) = (refl, refl, refl, λ c. cc, λ refused n. of_refusal message _ Short refused n (tells [] 0 (lit≤ tt)))
irregular_as setup message h flash worn memory e (Err Foreign) = (refl, refl, refl, λ c. cc, λ refused n. of_refusal message _ Foreign refused n (tells (headed message 0xc1) 0 (lit≤ tt)))
irregular_as setup message h flash worn memory e (Err Malformed) =
    (refl, refl, refl, λ c. cc, λ refused n. of_refusal message _ Malformed refused n (tells (headed message 0xc7) 0 (lit≤ tt)))

pub message_irregular : MessageIrregular
unfolding as_it_was messaged_record
message_irregular setup pair message h flash worn memory e = irregular_as setup message h flash worn memory e (taken_as pair h.version message)
