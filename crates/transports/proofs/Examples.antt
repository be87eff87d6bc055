-- The worked examples hold, by computation.
use Rattle.std.proofs.Common.{refl}
use Rattle.chip.specs.Actions.{erased, programmed}
use Rattle.soundness.specs.Soundness.{size_sound, sizes_sound, session_sound, sound, sound_at}
use Rattle.flush.specs.Actions.{block_actions, actions_from, flush_actions, perform, perform_all}
use Rattle.flush.specs.Worn.{until_failure, some_fail, finished_from, finished_blocks}
use Rattle.flush.specs.Window.{perform_in, flush_whole}
use Rattle.refusals.specs.Refusals.{reason_for}
use Rattle.messages.specs.Messages.{taken_as, response_of}
use Rattle.messages.specs.Parameters.{table, row_of}
use Rattle.mailbox.specs.Mediator.{command_at, answer_to, obeyed, mediate}
use Rattle.ipmi.specs.Served.{served}
use Rattle.transports.specs.Examples.{examples, MessagesHold}

pub messages_hold : MessagesHold
unfolding examples served taken_as response_of row_of table mediate obeyed answer_to command_at reason_for sound_at sound sizes_sound size_sound session_sound flush_whole finished_blocks finished_from some_fail until_failure perform_in perform_all perform flush_actions actions_from block_actions erased programmed
messages_hold = refl
