-- Worked examples of Ticket 3: lists of accesses and answers from a fresh port, with what each gives and the status register after it, read off the ticket and its
-- issue. Proved by one statement, in proofs/Examples.antt.
use Rattle.std.specs.Prelude.{ℕ, ◌≡◌, Bool, true, cond, ◌&&◌, List, [], ◌∷◌, ◌++◌, eqb, replicate}
use Rattle.kcs.specs.Port.{Port, fresh}
use Rattle.kcs.specs.Accesses.{status_read, byte_read, length_told, answers}
use Rattle.kcshost.specs.Runs.{read_status, read_data, write_command, write_data, Step, access, answer, stepped}

-- a step, what it gives, and the status after it
pub record Line : Type 0 where
  pub step : Step
  pub gives : ℕ
  pub status : ℕ

-- what a step gives: the register's content, the length that is told, 1 for an answer that is taken
abbrev pub given : Step → Port → ℕ
given (access read_status) p = status_read p
given (access read_data) p = byte_read p
given (access (write_command code)) p = 0
given (access (write_data byte)) p = length_told byte p
given (answer response) p = cond (answers response p) 1 0

-- the lines hold, one after the other
abbrev pub holds : List Line → Port → Bool
holds [] p = true
holds (l ∷ rest) p = eqb (given l.step p) l.gives && (eqb (status_read (stepped l.step p)) l.status && holds rest (stepped l.step p))

abbrev pub hold_all : List (List Line) → Bool
hold_all [] = true
hold_all (example ∷ rest) = holds example fresh && hold_all rest

-- how the lines are written: a command or data byte with the status after it, a byte read, the data byte that completes a message, an answer that is taken or refused
abbrev pub command : (code status : ℕ) → Line
command code status = record { step = access (write_command code); gives = 0; status = status }

abbrev pub datum : (byte status : ℕ) → Line
datum byte status = record { step = access (write_data byte); gives = 0; status = status }

abbrev pub reads : (byte status : ℕ) → Line
reads byte status = record { step = access read_data; gives = byte; status = status }

abbrev pub last : (byte length status : ℕ) → Line
last byte length status = record { step = access (write_data byte); gives = length; status = status }

abbrev pub taken : List ℕ → ℕ → Line
taken response status = record { step = answer response; gives = 1; status = status }

abbrev pub refused : List ℕ → ℕ → Line
refused response status = record { step = answer response; gives = 0; status = status }

-- a message of one byte, handed over: "62 straight after 61"
abbrev pub one_byte : List Line
one_byte = command 0x61 0x89 ∷ command 0x62 0x89 ∷ last 0x05 1 0x40 ∷ []

-- what 60 tells, with its 68 and the dummy byte
abbrev pub tells : ℕ → List Line
tells status = command 0x60 0x89 ∷ datum 0x00 0x41 ∷ reads status 0x40 ∷ datum 0x68 0x01 ∷ reads 0x00 0x00 ∷ []

-- the 64 bytes of a request
abbrev pub sixty_four : List Line
sixty_four = command 0x61 0x89 ∷ replicate 64 (datum 0x07 0x81)

abbrev pub examples : List (List Line)
examples =
    -- "all status bits are 0 at first", and "a read with OBF clear gives 00 and changes nothing"
    (record { step = access read_status; gives = 0x00; status = 0x00 } ∷ reads 0x00 0x00 ∷ [])
    -- a message of two bytes and an answer of three, by the published host; it ends in idle, with OBF clear
    ∷ (command 0x61 0x89 ∷ reads 0x00 0x88 ∷ datum 0x18 0x81 ∷ reads 0x00 0x80 ∷ command 0x62 0x89 ∷ reads 0x00 0x88 ∷ last 0x01 2 0x40
    ∷ taken (0x1c ∷ 0x01 ∷ 0x00 ∷ []) 0x41 ∷ reads 0x1c 0x40 ∷ datum 0x68 0x41 ∷ reads 0x01 0x40 ∷ datum 0x68 0x41 ∷ reads 0x00 0x40 ∷ datum 0x68 0x01 ∷ reads 0x00 0x00 ∷ [])
    -- the published recovery of an idle port: status 00
    ∷ (command 0x60 0x89 ∷ reads 0x00 0x88 ∷ datum 0x00 0x41 ∷ reads 0x00 0x40 ∷ datum 0x68 0x01 ∷ reads 0x00 0x00 ∷ [])
    -- "otherwise 01 if 61 came since idle, else 00"; 60 forgets nothing; idle does
    ∷ (command 0x61 0x89 ∷ command 0x60 0x89 ∷ (tells 0x01 ++ tells 0x00))
    -- an error in idle, and another command: 02. "60 and 61 are taken in every state"
    ∷ (datum 0x00 0xc1 ∷ reads 0x00 0xc0 ∷ command 0x55 0xc9 ∷ (tells 0x02 ++ (datum 0x00 0xc1 ∷ command 0x61 0x89 ∷ tells 0x01)))
    -- "62 once": the second is a wrong code, and so is one in idle or after 60
    ∷ (command 0x61 0x89 ∷ command 0x62 0x89 ∷ command 0x62 0xc9 ∷ (tells 0x02 ++ (command 0x62 0xc9 ∷ command 0x60 0x89 ∷ command 0x62 0xc9 ∷ [])))
    -- "data while a response is awaited" is a wrong code, 68 too
    ∷ (one_byte ++ (datum 0x68 0xc1 ∷ tells 0x02))
    -- the 65th byte before 62 is the length error; the one after it comes in the error state
    ∷ (sixty_four ++ (datum 0x07 0xc1 ∷ (tells 0x06 ++ (sixty_four ++ (datum 0x07 0xc1 ∷ datum 0x07 0xc1 ∷ tells 0x02)))))
    -- and after 62; 64 bytes are a message
    ∷ (sixty_four ++ (command 0x62 0x89 ∷ datum 0x07 0xc1 ∷ tells 0x06))
    ∷ (command 0x61 0x89 ∷ (replicate 63 (datum 0x07 0x81) ++ (command 0x62 0x89 ∷ last 0x07 64 0x40 ∷ [])))
    -- "OBF aside": a 68 before the byte was read goes on to the next; any other data is a wrong code
    ∷ (one_byte ++ (taken (0xaa ∷ 0xbb ∷ []) 0x41 ∷ datum 0x68 0x41 ∷ reads 0xbb 0x40 ∷ datum 0x68 0x01 ∷ reads 0x00 0x00 ∷ []))
    ∷ (one_byte ++ (taken (0xaa ∷ 0xbb ∷ []) 0x41 ∷ reads 0xaa 0x40 ∷ datum 0x00 0xc1 ∷ tells 0x02))
    -- "An empty response leads to idle with OBF set on 00"; the next answer is not awaited
    ∷ (one_byte ++ (taken [] 0x01 ∷ refused (0x01 ∷ []) 0x01 ∷ reads 0x00 0x00 ∷ tells 0x00))
    -- answers: not awaited; over 64 bytes; of 64; a second one; after 61 and after 60
    ∷ (refused [] 0x00 ∷ (one_byte ++ (refused (replicate 65 0x01) 0x40 ∷ taken (replicate 64 0x01) 0x41 ∷ refused (0x01 ∷ []) 0x41 ∷ [])))
    ∷ (one_byte ++ (command 0x61 0x89 ∷ refused (0x01 ∷ []) 0x89 ∷ []))
    ∷ (one_byte ++ (command 0x60 0x89 ∷ refused (0x01 ∷ []) 0x89 ∷ tells 0x01))
    -- 61 while reading opens a write phase, and 60 ends the reading
    ∷ (one_byte ++ (taken (0xaa ∷ 0xbb ∷ []) 0x41 ∷ one_byte))
    ∷ (one_byte ++ (taken (0xaa ∷ 0xbb ∷ []) 0x41 ∷ tells 0x01))
    -- after 60 the only data taken is 00, after that only 68; an error there is the last one
    ∷ (command 0x61 0x89 ∷ command 0x60 0x89 ∷ datum 0x68 0xc1 ∷ (tells 0x02 ++ (command 0x60 0x89 ∷ datum 0x00 0x41 ∷ datum 0x00 0xc1 ∷ tells 0x02)))
    -- told twice: 00 forgets nothing
    ∷ (command 0x61 0x89 ∷ command 0x60 0x89 ∷ datum 0x00 0x41 ∷ reads 0x01 0x40 ∷ tells 0x01)
    ∷ []

-- they all hold
abbrev pub ExamplesHold : Type 0
ExamplesHold = hold_all examples ≡ true
