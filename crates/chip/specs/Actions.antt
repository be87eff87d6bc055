-- Chip actions: document 01, "Numbers" and "Chip actions". The flash here is the part of the chip that is lent for the window's blocks:
-- block b of it is written from block b of the window. That an action outside it changes nothing is house.
use Rattle.std.specs.Prelude.{ℕ, ◌+◌, ◌*◌, Bool, ◌&&◌, cond, List, leb, ltb, length, replicate}
use Rattle.buffers.specs.Ranges.{range, replace, and_each}
use Rattle.units.specs.Units.{block_bytes, to_bytes}

-- "A page is 256 bytes; a block has 16"
abbrev pub page_bytes : ℕ
page_bytes = 256

abbrev pub block_pages : ℕ
block_pages = 16

-- block b lies whole in the bytes
abbrev pub has_block : ℕ → List ℕ → Bool
has_block b bytes = leb (to_bytes b + block_bytes) (length bytes)

-- n bytes from an offset on made FF
unfoldable pub erased : ℕ → ℕ → List ℕ → List ℕ
erased at n flash = replace at (replicate n 0xff) flash

-- "An erase makes 4,096 bytes FF"; outside the flash nothing changes
abbrev pub erase_block : ℕ → List ℕ → List ℕ
erase_block b flash = cond (has_block b flash) (erased (to_bytes b) block_bytes flash) flash

-- block b has a page p, and lies whole in the flash and in the window
abbrev pub has_page : ℕ → ℕ → List ℕ → List ℕ → Bool
has_page b p window flash = ltb p block_pages && (has_block b flash && has_block b window)

-- n bytes from an offset on, each "the bitwise AND of old byte and window byte"
unfoldable pub programmed : ℕ → ℕ → List ℕ → List ℕ → List ℕ
programmed at n window flash = replace at (and_each (range at n flash) (range at n window)) flash

-- "A page action replaces each byte by the bitwise AND"; outside the flash or the window nothing changes
abbrev pub program_page : ℕ → ℕ → List ℕ → List ℕ → List ℕ
program_page b p window flash =
    cond (has_page b p window flash) (programmed (to_bytes b + p * page_bytes) page_bytes window flash) flash
