-- A message's registers and a response as the code lays them out.
use Rattle.std.proofs.Common.{◌≡◌, ℕ, suc, ◌+◌, ◌*◌, ◌<◌, cond, ltb, eqb, ◌&&◌, false, List, [], ◌∷◌, ◌++◌, length, get_or, drop, set, sym, ap, ◌∙◌, le_refl, append-nil, eq-eqb, ne_eqb, arith}
use Rattle.std.proofs.lemmas.List.FromFn.{fill_by_all}
use borrow.Rule.Slice.PartMut.{put_mid}
use Rattle.registers.specs.Registers.{command_of, sequence_of, padded}
use Rattle.messages.specs.declared.Response.{Response}
use Rattle.messages.specs.Lengths.{told}
use Rattle.messages.specs.Messages.{network_function_of, lun_of, ipmi_command_of, hiomap_command_of, number_of, parameters_of, made_odd, headed, values_of, status_of, completion_of, response_of, laid}
use Rattle.messages.specs.Parameters.{row_of}
use Rattle.messages.proofs.Cells.{filled, behind}
use Rattle.messages.proofs.Rows.{packed_as, packed_long}

-- ---- registers: the 13 bytes of a message behind its second, 0 past its end, and three zeros
pub copied : (message registers : List ℕ) → length registers ≡ 16
    → ((k : ℕ) → k < 16 → get_or registers k 0 ≡ cond (ltb k 13) (get_or message (k + 2) 0) 0)
    → registers ≡ hiomap_command_of message ∷ number_of message ∷ (padded (parameters_of message) ++ (0 ∷ 0 ∷ 0 ∷ []))
copied message registers l h =
    fill_by_all (λ (k : ℕ). cond (ltb k 13) (get_or message (k + 2) 0) 0) registers 16 0 l h
    ∙ ap (λ (t : List ℕ). get_or message 2 0 ∷ get_or message 3 0 ∷ (t ++ (0 ∷ 0 ∷ 0 ∷ [])))
    (sym (filled 11 11 (drop 4 message) (le_refl 11) ∙ behind 11 4 message))

-- ---- a response: with a completion code alone
pub laid_refused : (version : ℕ) (message registers : List ℕ) → (status_of registers ≡ 1 → ⊥)
    → laid (headed message (completion_of (status_of registers))) ≡ laid (response_of version message registers)
unfolding response_of
laid_refused version message registers n = rw (ne_eqb (status_of registers) 1 n)

-- with all of it
pub laid_served : (version n : ℕ) (message registers head vs : List ℕ) → status_of registers ≡ 1 → length registers ≡ 16
    → head ≡ (laid (headed message 0)).bytes → vs ≡ padded (values_of (row_of (command_of registers) version) registers)
    → n ≡ told (row_of (command_of registers) version)
    → ◌≡◌ {A = Response}
    (record { bytes = put_mid 5 11 (set (set head 3 (command_of registers)) 4 (sequence_of registers)) vs; length = 5 + n })
    (laid (response_of version message registers))
unfolding response_of
laid_served version n message registers head vs s l h e t =
    let values = values_of (row_of (command_of registers) version) registers in
    let cells = append-nil vs ∙ e ∙ filled 11 11 values (le_refl 11) ∙ sym (filled 11 16 values (omega arith)) in
    let long : 5 + n ≡ suc (suc (suc (suc (suc (length values))))) = omega (arith, packed_long (command_of registers) version registers l) in
    rw (h, eq-eqb (status_of registers) 1 s)
    (λ i. record {
      bytes = (made_odd (network_function_of message) * 4 + lun_of message) ∷ ipmi_command_of message ∷ 0 ∷ command_of registers ∷ sequence_of registers ∷ cells i;
      length = long i;
    })

-- the bytes of its parameters: but for GET_INFO at version 2 those of the registers behind the second, as many as there are
pub fronted : (code version count : ℕ) (registers values : List ℕ) → (eqb code 2 && eqb version 2) ≡ false → length registers ≡ 16
    → count ≡ told (row_of code version) → length values ≡ 11
    → ((k : ℕ) → k < 11 → get_or values k 0 ≡ cond (ltb k count) (get_or registers (2 + k) 0) 0)
    → values ≡ padded (values_of (row_of code version) registers)
fronted code version count registers values i l e v h =
    fill_by_all (λ (k : ℕ). cond (ltb k count) (get_or registers (2 + k) 0) 0) values 11 0 v h ∙ sym (packed_as code version count registers i l e)
