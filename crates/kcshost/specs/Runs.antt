-- Lists of accesses and answers, each on what the one before left: what they leave of the port, what the host reads, and what the controller is handed.
use Rattle.std.specs.Prelude.{ℕ, Bool, true, false, cond, List, [], ◌∷◌, ◌++◌, eqb}
use Rattle.kcs.specs.Port.{Port}
use Rattle.kcs.specs.Accesses.{byte_read, data_read, command_written, data_written, length_told, message, answered}

-- an access of the host to one of the four registers (001, 9.5)
pub data Access : Type 0 where
  read_status read_data : Access
  write_command write_data : ℕ → Access

-- what an access leaves
abbrev pub accessed : Access → Port → Port
accessed read_status p = p
accessed read_data p = data_read p
accessed (write_command code) p = command_written code p
accessed (write_data byte) p = data_written byte p

abbrev pub accessed_all : List Access → Port → Port
accessed_all [] p = p
accessed_all (access ∷ rest) p = accessed_all rest (accessed access p)

-- the messages that accesses hand over to the controller, each with its bytes: a write whose told length is not 0 hands one over
abbrev pub handed : Access → Port → List (List ℕ)
handed read_status p = []
handed read_data p = []
handed (write_command code) p = []
handed (write_data byte) p = cond (eqb (length_told byte p) 0) [] (message (length_told byte p) (data_written byte p) ∷ [])

abbrev pub handed_all : List Access → Port → List (List ℕ)
handed_all [] p = []
handed_all (access ∷ rest) p = handed access p ++ handed_all rest (accessed access p)

-- the bytes that the host reads from Data_Out
abbrev pub out_of : Access → Port → List ℕ
out_of read_status p = []
out_of read_data p = byte_read p ∷ []
out_of (write_command code) p = []
out_of (write_data byte) p = []

abbrev pub out_of_all : List Access → Port → List ℕ
out_of_all [] p = []
out_of_all (access ∷ rest) p = out_of access p ++ out_of_all rest (accessed access p)

-- "status reads not counted": the accesses without them
abbrev pub counted : Access → List Access
counted read_status = []
counted read_data = read_data ∷ []
counted (write_command code) = write_command code ∷ []
counted (write_data byte) = write_data byte ∷ []

abbrev pub counted_all : List Access → List Access
counted_all [] = []
counted_all (access ∷ rest) = counted access ++ counted_all rest

-- whether there is none
abbrev pub is_none : List Access → Bool
is_none [] = true
is_none (access ∷ rest) = false

-- an access, or an answer of the controller
pub data Step : Type 0 where
  access : Access → Step
  answer : List ℕ → Step

-- what a step leaves
abbrev pub stepped : Step → Port → Port
stepped (access a) p = accessed a p
stepped (answer response) p = answered response p

abbrev pub stepped_all : List Step → Port → Port
stepped_all [] p = p
stepped_all (step ∷ rest) p = stepped_all rest (stepped step p)

-- the messages that steps hand over
abbrev pub handed_by : Step → Port → List (List ℕ)
handed_by (access a) p = handed a p
handed_by (answer response) p = []

abbrev pub handed_in : List Step → Port → List (List ℕ)
handed_in [] p = []
handed_in (step ∷ rest) p = handed_by step p ++ handed_in rest (stepped step p)
