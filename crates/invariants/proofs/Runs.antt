-- What a run of any calls keeps: the claims stand in specs/Runs.antt.
use Rattle.std.proofs.Common.{◌≡◌, refl, sym, ap, subst, ◌∙◌, Bool, true, false, cond, not, ◌&&◌, List, [], ◌∷◌, ⊎_elim, ℕ, ◌+◌, ◌≤◌, min, arith, bit_and, length, take, drop, length-append, length-take, length-drop, take_all, Option, None, Some}
use mathlib.Core.Bool.{false≢true}
use Rattle.units.proofs.Cases.{decided, chosen}
use Rattle.buffers.specs.Ranges.{replace}
use Rattle.buffers.proofs.Replace.{replace_length}
use Rattle.session.specs.declared.Session.{Session}
use Rattle.session.specs.Events.{control_lost, window_reset, set_bits, clear_bits, acknowledgeable}
use Rattle.session.specs.Machine.{Setup, Machine, lent}
use Rattle.session.specs.Record.{with_access, drop_window, fresh}
use Rattle.session.specs.Suspension.{answer}
use Rattle.session.proofs.Answers.{either_way}
use Rattle.session.proofs.Bits.{same_part, same_bit, clear_within, set_within}
use Rattle.soundness.specs.Soundness.{sound, sound_at, sound_in}
use Rattle.soundness.proofs.Access.{told}
use Rattle.soundness.proofs.Facts.{sizes, fitting, part_within, measured}
use Rattle.soundness.proofs.SoundMarks.{marks_within}
use Rattle.flush.specs.Window.{window_actions, perform_in, window_worn, done_actions, flush_fails, has_next, perform_next, Advanced, advanced}
use Rattle.flush.proofs.Bytes.{AllIn}
use Rattle.flush.proofs.Failing.{until_first}
use Rattle.flush.proofs.Cuts.{all_flush, all_take, all_drop}
use Rattle.flush.proofs.Whole.{in_length}
use Rattle.refusals.proofs.Accepting.{never_system}
use Rattle.marklist.specs.MarkList.{ListAnswer, list_code, pairs_of, answer_for}
use Rattle.marklist.proofs.Taken.{list_left, list_answer, each_check, pairs_code}
use Rattle.mailbox.specs.Mediator.{command_in, reason_of, reason_in, mediate}
use Rattle.mailbox.specs.Runs.{Call, send, mark_list, suspend, resume, resume_changed, advance, write, alter, wear, written, called, called_all}
use Rattle.mailbox.proofs.Lengths.{memory_long, map_same}
use Rattle.invariants.specs.Demand2.{flushed_for, Leaves}
use Rattle.invariants.specs.Events.{events_after}
use Rattle.invariants.specs.Runs.{RunLengths, RunEvents, RunKeeps, RunServed, RunFromFresh}
use Rattle.invariants.proofs.Demand2.{demand_2}
use Rattle.invariants.proofs.Events.{command_events}
use Rattle.invariants.proofs.Kept.{command_keeps, list_keeps, access_keeps, fresh_sound}

-- ---- lengths

-- a command, whether it carries out marks or not
leaves_long : (t : Option Session) (flash worn memory after : List ℕ) (actions : ℕ) → Leaves t flash worn memory after actions → length after ≡ length flash
leaves_long None flash worn memory after actions l = ap length l.0
leaves_long (Some s) flash worn memory after actions l = l.long

-- a step
step_long : (m : Machine) (done : ℕ) → length (advanced m done).flash ≡ length m.flash
unfolding advanced perform_in
step_long m done =
    ⊎_elim
    (λ (e : sound (length m.flash) (length m.worn) (length m.memory) m.session ≡ true).
    rw e (⊎_elim (λ (a : m.session.suspended ≡ true). rw a) (λ (a : m.session.suspended ≡ false). rw a (acted e)) (decided m.session.suspended)))
    (λ (e : sound (length m.flash) (length m.worn) (length m.memory) m.session ≡ false). rw e)
    (decided (sound (length m.flash) (length m.worn) (length m.memory) m.session))
  where
    acted : sound (length m.flash) (length m.worn) (length m.memory) m.session ≡ true → length (perform_next m done) ≡ length m.flash
    acted e =
        let s = m.session in
        let p = part_within (length m.flash) (length m.worn) (length m.memory) s e in
        let f = fitting _ _ s (sizes (length m.flash) (length m.worn) (length m.memory) s e).2 in
        let all = all_flush s.size s.marks (marks_within s.window s.size s.marks f.marks) in
        let actions = window_actions s in
        let first = length (done_actions m) in
        let begun = subst (AllIn s.size) (sym (until_first (window_worn s m.worn) actions)) (all_take s.size first actions all) in
        in_length s m.flash p.0 m.memory p.1 (take 1 (drop done (done_actions m)))
        (all_take s.size 1 (drop done (done_actions m)) (all_drop s.size done (done_actions m) begun))

-- bytes that others write
pub write_long : (at : ℕ) (bytes buffer : List ℕ) → length (written at bytes buffer) ≡ length buffer
write_long at bytes buffer =
    length-take (length buffer) (replace at bytes buffer) ∙ least
  where
    longer : length buffer ≤ length (replace at bytes buffer)
    longer = simp (length-append, length-take, length-drop) (omega arith)

    least : min (length buffer) (length (replace at bytes buffer)) ≡ length buffer
    least = omega (arith, longer)

-- those that fit replace a range
pub write_within : (at : ℕ) (bytes buffer : List ℕ) → at + length bytes ≤ length buffer → written at bytes buffer ≡ replace at bytes buffer
write_within at bytes buffer fits =
    let same = replace_length at bytes buffer fits in
    take_all (length buffer) (replace at bytes buffer) (omega arith)

call_long : (setup : Setup) (call : Call) (m : Machine)
    → (length (called setup call m).flash ≡ length m.flash) × (length (called setup call m).memory ≡ length m.memory)
    × (length (called setup call m).worn ≡ length m.worn)
call_long setup (send registers) m = (
  leaves_long (flushed_for (reason_in setup registers m) m.session registers) m.flash m.worn m.memory (mediate setup registers m).machine.flash (mediate setup registers m).actions (demand_2 setup registers m),
  memory_long setup registers m,
  ap length (map_same setup registers m),
)
call_long setup (mark_list list) m = (refl, refl, refl)
call_long setup suspend m = (refl, refl, refl)
call_long setup resume m = (refl, refl, refl)
call_long setup resume_changed m = (refl, refl, refl)
call_long setup (advance done) m = (step_long m done, refl, refl)
call_long setup (write at bytes) m = (refl, write_long at bytes m.memory, refl)
call_long setup (alter at bytes) m = (write_long at bytes m.flash, refl, refl)
call_long setup (wear at bytes) m = (refl, refl, write_long at bytes m.worn)

pub run_lengths : RunLengths
run_lengths setup [] m = (refl, refl, refl)
run_lengths setup (call ∷ calls) m =
    let p = run_lengths setup calls (called setup call m) in
    let q = call_long setup call m in
    (p.0 ∙ q.0, p.1 ∙ q.1, p.2 ∙ q.2)

-- ---- event bits

access_same : (acts : Bool) (s t : Session) → bit_and t.events 0xbc ≡ bit_and s.events 0xbc
    → bit_and (answer acts s t).session.events 0xbc ≡ bit_and s.events 0xbc
access_same acts s t e = either_way (λ (u : Session). bit_and u.events 0xbc ≡ bit_and s.events 0xbc) acts s t refl e

call_events : (setup : Setup) (call : Call) (m : Machine)
    → bit_and (called setup call m).session.events 0xbc ≡ bit_and m.session.events 0xbc
call_events setup (send registers) m =
    same_part acknowledgeable 0xbc (events_after setup registers m) m.session.events refl (command_events setup registers m)
call_events setup (mark_list list) m =
    list_left (λ (t : Session). bit_and t.events 0xbc ≡ bit_and m.session.events 0xbc) setup list m refl (λ _. refl)
call_events setup suspend m =
    let s = m.session in
    access_same (not s.suspended) s (with_access true (set_bits control_lost s.events) s) (set_within 0x43 control_lost s.events refl)
call_events setup resume m =
    let s = m.session in
    access_same s.suspended s (with_access false (clear_bits control_lost s.events) s) (clear_within 0x43 control_lost s.events refl)
call_events setup resume_changed m =
    let s = m.session in
    access_same s.suspended s (drop_window (with_access false (set_bits window_reset (clear_bits control_lost s.events)) s))
    (set_within 0x43 window_reset (clear_bits control_lost s.events) refl ∙ clear_within 0x43 control_lost s.events refl)
call_events setup (advance done) m = refl
call_events setup (write at bytes) m = refl
call_events setup (alter at bytes) m = refl
call_events setup (wear at bytes) m = refl

pub run_events : RunEvents
run_events setup [] m = refl
run_events setup (call ∷ calls) m = run_events setup calls (called setup call m) ∙ call_events setup call m

-- ---- soundness

-- the session afterwards is sound in the lengths from before
call_sound : (setup : Setup) (call : Call) (m : Machine) → sound_in setup m ≡ true
    → sound_at setup (length m.flash) (length m.worn) (length m.memory) (called setup call m).session ≡ true
call_sound setup (send registers) m e = command_keeps setup registers m e
call_sound setup (mark_list list) m e = list_keeps setup list m e
call_sound setup suspend m e = (access_keeps setup (length m.flash) (length m.worn) (length m.memory) m.session e).0
call_sound setup resume m e = (access_keeps setup (length m.flash) (length m.worn) (length m.memory) m.session e).1
call_sound setup resume_changed m e = (access_keeps setup (length m.flash) (length m.worn) (length m.memory) m.session e).2
call_sound setup (advance done) m e = e
call_sound setup (write at bytes) m e = e
call_sound setup (alter at bytes) m e = e
call_sound setup (wear at bytes) m e = e

pub run_keeps : RunKeeps
run_keeps setup [] m e = e
run_keeps setup (call ∷ calls) m e =
    let long = call_long setup call m in
    run_keeps setup calls (called setup call m) (rw (long.0, long.1, long.2) (call_sound setup call m e))

step_served : (m : Machine) → sound (length m.flash) (length m.worn) (length m.memory) m.session ≡ true → (done : ℕ) → (advanced m done).code ≡ 4 → ⊥
unfolding advanced
step_served m e done q =
    chosen (λ (a : Advanced). a.code ≡ 4 → ⊥) m.session.suspended
    (record { code = 6; yes = false; flash = m.flash })
    (record { code = cond (not (has_next m done) && flush_fails m) 3 1; yes = has_next m done; flash = perform_next m done })
    (λ _ r. omega arith) (λ _. chosen (λ (n : ℕ). n ≡ 4 → ⊥) (not (has_next m done) && flush_fails m) 3 1 (λ _ r. omega arith) (λ _ r. omega arith)) (rw e at q)

list_served : (list : List ℕ) (s : Session) → list_code (answer_for true list s) ≡ 4 → ⊥
list_served list s =
    each_check (λ (a : ListAnswer). list_code a ≡ 4 → ⊥) true list s (λ q. absurd (false≢true (sym q))) (λ _ q. omega arith) (λ _ q. omega arith)
    (λ _ _ q. omega arith) (λ _ q. omega arith)
    (λ _. pairs_code (λ (code : ℕ). code ≡ 4 → ⊥) (λ q. omega arith) (λ q. omega arith) s.size 0 (pairs_of list))

pub run_served : RunServed
run_served setup calls m e =
    let n = called_all setup calls m in
    let sounds = run_keeps setup calls m e in (
      λ registers q.
          never_system n.session registers _ _ _ (ap (λ (b : Bool). reason_of (command_in registers) b registers n) (sym sounds) ∙ q),
      λ list q.
          list_served list n.session (sym (ap list_code (list_answer setup list n ∙ ap (λ (b : Bool). answer_for b list n.session) sounds)) ∙ q),
      step_served n (measured setup (length n.flash) (length n.worn) (length n.memory) n.session sounds).sound,
    )

pub run_from_fresh : RunFromFresh
run_from_fresh setup flash worn memory whole most calls =
    let start = lent fresh flash worn memory in
    let m = called_all setup calls start in
    let e = run_keeps setup calls start (fresh_sound setup (length flash) (length worn) (length memory) whole most) in (
      e,
      record {
        lost = told m.session.suspended m.session.events (measured setup (length m.flash) (length m.worn) (length m.memory) m.session e).fits.access;
        ready = same_bit 0x43 0x80 m.session.events 0x81 refl (run_events setup calls start);
      },
    )
