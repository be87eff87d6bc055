-- `mailbox::windows::create`: refused by the table, closed for a block outside the flash, or opened.
use Rattle.std.proofs.Common.{◌≡◌, List, ℕ, refl, sym, ap, ◌∙◌, length, rules}
use Rattle.registers.specs.Registers.{command_of}
use Rattle.soundness.proofs.Facts.{sized}
use Rattle.refusals.specs.Refusals.{Accepted}
use Rattle.session.specs.declared.Board.{Board}
use Rattle.session.specs.declared.Session.{Session}
use Rattle.session.specs.Machine.{set_up, lent}
use Rattle.mailbox.specs.Commands.{closing_first, created}
use Rattle.mailbox.specs.Table.{create}
use Rattle.mailbox.proofs.Ran.{refused_first, broken_last, served_last}
use Rattle.mailbox.proofs.windows.create.Goals as goal

pub returns-in_err-check : goal.returns-in_err-check
returns-in_err-check c =
    let a = c.args in
    let f = refused_first (create (command_of a.call.registers) a.window) a.call a.flash.now a.worn.now a.memory.now refl c.check.ensures in search rules

pub open_at-requires-clause-flash_blocks : goal.open_at-requires-clause-flash_blocks
open_at-requires-clause-flash_blocks c = let f = sized 65535 (length c.args.flash.now) c.requires.0 in (f.whole, f.few)

pub open_at-requires-clause-memory_blocks : goal.open_at-requires-clause-memory_blocks
open_at-requires-clause-memory_blocks c = let m = sized 64 (length c.args.memory.now) c.requires.1 in (m.whole, m.few)

pub returns-then-is_outside : goal.returns-then-is_outside
returns-then-is_outside c =
    let a = c.args in
    let e : c.check.result ≡ Accepted = search rules in
    let outside = sym c.is_outside.ensures ∙ c.if-is_outside.true in
    let b = broken_last (create (command_of a.call.registers) a.window) a.call a.flash.now a.worn.now a.memory.now refl c.check.ensures e outside in
    c.close_first.ensures
    ∙ ap (λ (t : List ℕ). closing_first 2 t (lent c.numbered.result.session a.flash.now a.worn.now a.memory.now)) c.numbered.ensures.registers
    ∙ ap (λ (t : Session). closing_first 2 a.call.registers (lent t a.flash.now a.worn.now a.memory.now)) c.numbered.ensures.session
    ∙ b

pub returns : goal.returns
returns c =
    let a = c.args in
    let e : c.check.result ≡ Accepted = search rules in
    let inside = sym c.is_outside.ensures ∙ c.if-is_outside.false in
    let s = served_last (create (command_of a.call.registers) a.window) a.call a.flash.now a.worn.now a.memory.now refl c.check.ensures e inside in
    c.open_at.ensures
    ∙ ap (λ (t : Board). created a.window (set_up t) c.numbered-2.result.registers (lent c.numbered-2.result.session a.flash.now a.worn.now a.memory.now)) c.numbered-2.ensures.board
    ∙ ap (λ (t : List ℕ). created a.window (set_up a.call.board) t (lent c.numbered-2.result.session a.flash.now a.worn.now a.memory.now)) c.numbered-2.ensures.registers
    ∙ ap (λ (t : Session). created a.window (set_up a.call.board) a.call.registers (lent t a.flash.now a.worn.now a.memory.now)) c.numbered-2.ensures.session
    ∙ s
