-- The examples hold, the twelve of document 01 and the tickets' own, by computation from the definitions: in parts, since one declaration may not take so
-- many steps.
use Rattle.std.proofs.Common.{ℕ, zero, suc, ◌≡◌, refl, Bool, true, false, ◌&&◌, List, [], ◌∷◌, take, drop}
use Rattle.chip.specs.Actions.{erased, programmed}
use Rattle.soundness.specs.Soundness.{size_sound, sizes_sound, session_sound, sound, sound_at}
use Rattle.flush.specs.Actions.{block_actions, actions_from, flush_actions, perform, perform_all}
use Rattle.flush.specs.Worn.{until_failure, some_fail, finished_from, finished_blocks}
use Rattle.flush.specs.Window.{perform_in, advanced, flush_whole}
use Rattle.refusals.specs.Refusals.{reason_for}
use Rattle.marklist.specs.MarkList.{answer_for, listed}
use Rattle.mailbox.specs.Mediator.{command_at, answer_to, obeyed, mediate}
use Rattle.examples.specs.Examples.{every, passes, start, examples, AllHold}

-- what holds of the first so many elements and of the rest holds of all
both : (a b c : Bool) → (a && b) ≡ true → (b ≡ true → c ≡ true) → (a && c) ≡ true
both true b c h f = f h
both false b c h f = h

parted : {A : Type 0} (test : A → Bool) (n : ℕ) (xs : List A) → every test (take n xs) ≡ true → every test (drop n xs) ≡ true → every test xs ≡ true
parted test zero xs h k = k
parted test (suc n) [] h k = refl
parted test (suc n) (x ∷ xs) h k = both (test x) (every test (take n xs)) (every test xs) h (λ g. parted test n xs g k)

-- the twelve
twelve_hold : every (passes start) (take 12 examples) ≡ true
unfolding examples listed answer_for mediate obeyed answer_to command_at reason_for sound_at sound sizes_sound size_sound session_sound flush_whole advanced finished_blocks finished_from some_fail until_failure perform_in perform_all perform flush_actions actions_from block_actions erased programmed
twelve_hold = refl

-- those of Tickets 5, 1, 7, 2 and 4
five_hold : every (passes start) (take 5 (drop 12 examples)) ≡ true
unfolding examples listed answer_for mediate obeyed answer_to command_at reason_for sound_at sound sizes_sound size_sound session_sound flush_whole advanced finished_blocks finished_from some_fail until_failure perform_in perform_all perform flush_actions actions_from block_actions erased programmed
five_hold = refl

-- that of Ticket 8
last_holds : every (passes start) (drop 5 (drop 12 examples)) ≡ true
unfolding examples listed answer_for mediate obeyed answer_to command_at reason_for sound_at sound sizes_sound size_sound session_sound flush_whole advanced finished_blocks finished_from some_fail until_failure perform_in perform_all perform flush_actions actions_from block_actions erased programmed
last_holds = refl

pub all_hold : AllHold
all_hold = parted (passes start) 12 examples twelve_hold (parted (passes start) 5 (drop 12 examples) five_hold last_holds)
