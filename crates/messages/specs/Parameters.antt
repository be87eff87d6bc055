-- The parameters of every command at versions 0 to 2: the tables of 000 and 002, "Command Definitions", in their order. The check of a message's length, its
-- unpacking and the packing of its response all go by this one table.
use Rattle.std.specs.Prelude.{Option, None, Some, ℕ, ◌+◌, Bool, true, false, cond, ◌&&◌, List, [], ◌∷◌, eqb}

-- a parameter: its size in bytes, and its offset "in the message (disregarding the command and sequence bytes)" by mailbox, column M, and by message, column I
pub record Parameter : Type 0 where
  pub size : ℕ
  pub mailbox : ℕ
  pub message : ℕ

-- a byte, a 16-bit and a 32-bit number at these two offsets, by the letters of column D
abbrev pub y : ℕ → ℕ → Parameter
y M I = record { size = 1; mailbox = M; message = I }

abbrev pub q : ℕ → ℕ → Parameter
q M I = record { size = 2; mailbox = M; message = I }

abbrev pub u : ℕ → ℕ → Parameter
u M I = record { size = 4; mailbox = M; message = I }

-- a row: a command's code, a version, and the columns "Command" and "Response"
pub record Row : Type 0 where
  pub code : ℕ
  pub version : ℕ
  pub request : List Parameter
  pub response : List Parameter

abbrev pub row : ℕ → ℕ → List Parameter → List Parameter → Row
row code version request response = record { code = code; version = version; request = request; response = response }

-- the table. "Version 0 knows 1, 2 and 9" (01): the unversioned commands, as every version has them. Version 0 has no response of GET_INFO, since that is
-- laid out by the version just agreed
unfoldable pub table : List Row
table =
    -- RESET
    row 1 0 [] []
    ∷ row 1 1 [] []
    ∷ row 1 2 [] []
    -- GET_INFO: Version. Response of version 1: Version, Read Window Size, Write Window Size; of version 2: Version, Block Size Shift, Timeout
    ∷ row 2 0 (y 0 0 ∷ []) []
    ∷ row 2 1 (y 0 0 ∷ []) (y 0 0 ∷ q 1 1 ∷ q 3 3 ∷ [])
    ∷ row 2 2 (y 0 0 ∷ []) (y 0 0 ∷ y 5 1 ∷ q 6 2 ∷ [])
    -- GET_FLASH_INFO. Response: Flash Size, Erase Granule
    ∷ row 3 1 [] (u 0 0 ∷ u 4 4 ∷ [])
    ∷ row 3 2 [] (q 0 0 ∷ q 2 2 ∷ [])
    -- CREATE_READ_WINDOW, version 1: Flash Offset. Response: LPC FW Offset
    ∷ row 4 1 (q 0 0 ∷ []) (q 0 0 ∷ [])
    -- version 2: Flash Address, Length. Response: LPC FW Address, Length, Flash Address
    ∷ row 4 2 (q 0 0 ∷ q 2 2 ∷ []) (q 0 0 ∷ q 2 2 ∷ q 4 4 ∷ [])
    -- CLOSE, version 2: Flags
    ∷ row 5 1 [] []
    ∷ row 5 2 (y 0 0 ∷ []) []
    -- CREATE_WRITE_WINDOW, as CREATE_READ_WINDOW
    ∷ row 6 1 (q 0 0 ∷ []) (q 0 0 ∷ [])
    ∷ row 6 2 (q 0 0 ∷ q 2 2 ∷ []) (q 0 0 ∷ q 2 2 ∷ q 4 4 ∷ [])
    -- MARK_DIRTY, version 1: Flash Offset, Length in bytes; version 2: Window Offset, Length in blocks
    ∷ row 7 1 (q 0 0 ∷ u 2 2 ∷ []) []
    ∷ row 7 2 (q 0 0 ∷ q 2 2 ∷ []) []
    -- FLUSH, version 1: Flash Offset, Length in bytes
    ∷ row 8 1 (q 0 0 ∷ u 2 2 ∷ []) []
    ∷ row 8 2 [] []
    -- ACK: Ack Mask
    ∷ row 9 0 (y 0 0 ∷ []) []
    ∷ row 9 1 (y 0 0 ∷ []) []
    ∷ row 9 2 (y 0 0 ∷ []) []
    -- ERASE: Window Offset, Length in blocks
    ∷ row 10 2 (q 0 0 ∷ q 2 2 ∷ []) []
    ∷ []

-- the row of a command and a version, if the version knows the command
abbrev pub row_in : List Row → ℕ → ℕ → Option Row
row_in [] code version = None
row_in (r ∷ rows) code version = cond (eqb version r.version && eqb code r.code) (Some r) (row_in rows code version)

unfoldable pub row_of : ℕ → ℕ → Option Row
row_of code version = row_in table code version

-- "a known command at its version": the table has a row of it
abbrev pub is_row : Option Row → Bool
is_row None = false
is_row (Some r) = true

abbrev pub is_known : ℕ → ℕ → Bool
is_known code version = is_row (row_of code version)

-- "Command length encoding: Assumed from negotiated protocol version": the bytes of these parameters
abbrev pub bytes_in : List Parameter → ℕ
bytes_in [] = 0
bytes_in (p ∷ ps) = p.size + bytes_in ps
