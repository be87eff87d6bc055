-- What the published host gets from a port: 02, Ticket 3. The charts are those of Host.antt; the lists of accesses have status reads anywhere between. Proved in
-- proofs/Writing.antt, Reading.antt, Waiting.antt and Recovering.antt.
use Rattle.std.specs.Prelude.{ℕ, suc, ◌≤◌, ◌<◌, ◌≡◌, false, cond, List, [], ◌∷◌, ◌++◌, length}
use Rattle.kcs.specs.Port.{Port, awaiting, phase_of, fresh}
use Rattle.kcs.specs.Accesses.{status_read, answered}
use Rattle.kcshost.specs.Runs.{Access, accessed_all, handed_all, out_of_all, counted_all, is_none, Step, stepped_all}
use Rattle.kcshost.specs.Host.{state_seen, obf_seen, ends, error_exit, waits, Transfer, begin, seen, write_transfer, read_transfer, read_on, recovery}
use Rattle.kcshost.specs.History.{marks_of, named}

-- a list of accesses is this host's, with status reads anywhere between
abbrev pub Makes : List Access → Transfer → Type 0
Makes accesses t = counted_all accesses ≡ t.made

-- ---- the write

-- "A message is handed over with its last byte, as exactly the bytes of its write phase": cut the list anywhere, and nothing is handed over while an access is to
-- come, and then exactly this message
abbrev pub HandsOver : List ℕ → List Access → Port → Type 0
HandsOver bytes accesses p =
    (front back : List Access) → front ++ back ≡ accesses → handed_all front p ≡ cond (is_none (counted_all back)) (bytes ∷ []) []

-- the published write of a message of 1 to 64 bytes, from every port: it comes to the chart's end, so each state was the one that it waits for; a response is
-- awaited then, in READ with OBF clear. The chart has no wait for OBF; that each write but the last sets it is `WritesShow` (Rows.antt)
pub record Written (bytes : List ℕ) (p : Port) : Type 0 where
  pub chart : (write_transfer bytes (begin p)).met ≡ ends
  pub status : seen (write_transfer bytes (begin p)) ≡ 0x40
  pub phase : phase_of (write_transfer bytes (begin p)).port.control.phase ≡ awaiting
  pub message : (accesses : List Access) → Makes accesses (write_transfer bytes (begin p)) → HandsOver bytes accesses p
  pub leaves : (accesses : List Access) → Makes accesses (write_transfer bytes (begin p)) → accessed_all accesses p ≡ (write_transfer bytes (begin p)).port

abbrev pub PublishedWrite : Type 0
PublishedWrite = (bytes : List ℕ) (p : Port) → 1 ≤ length bytes → length bytes ≤ 64 → Written bytes p

-- ---- the read

-- "the published read gets exactly the response's": the bytes that it takes for data are the response, the dummy byte is 00, and the port is idle with OBF clear
pub record Read (response : List ℕ) (turns : ℕ) (p : Port) : Type 0 where
  pub chart : (read_transfer turns (begin p)).met ≡ ends
  pub got : (read_transfer turns (begin p)).got ≡ response
  pub state : state_seen (seen (read_transfer turns (begin p))) ≡ 0
  pub clear : obf_seen (seen (read_transfer turns (begin p))) ≡ false
  pub bytes : (accesses : List Access) → Makes accesses (read_transfer turns (begin p)) → out_of_all accesses p ≡ response ++ (0x00 ∷ [])
  pub leaves : (accesses : List Access) → Makes accesses (read_transfer turns (begin p)) → accessed_all accesses p ≡ (read_transfer turns (begin p)).port

-- of an answer of up to 64 bytes to a port that awaits one, by a host that looks at the state after the answer, and allows a turn more than it has
-- bytes. "An empty response leads to idle with OBF set on 00"; of a host that waits for OBF already see `EmptyRaces`
abbrev pub PublishedRead : Type 0
PublishedRead =
    (response : List ℕ) (turns : ℕ) (p : Port) → phase_of p.control.phase ≡ awaiting → length response ≤ 64 → length response < turns
    → Read response turns (answered response p)

-- until then the host waits, and touches nothing
abbrev pub ReadWaits : Type 0
ReadWaits =
    (turns : ℕ) (p : Port) → status_read p ≡ 0x40 → 0 < turns → ((read_transfer turns (begin p)).met ≡ waits) × ((read_transfer turns (begin p)).made ≡ [])

-- a host that has seen READ and stands at its wait for OBF goes on as one that begins now, where the response has a byte
abbrev pub ReadGoesOn : Type 0
ReadGoesOn =
    (response : List ℕ) (turns : ℕ) (p : Port) → phase_of p.control.phase ≡ awaiting → 1 ≤ length response → length response ≤ 64
    → read_on turns (begin (answered response p)) ≡ read_transfer (suc turns) (begin (answered response p))

-- an empty one it takes for a byte, for the chart has OBF alone there: it reads the 00, its READ in idle is a wrong code, and it comes to its error exit, with 02
pub record Raced (t : Transfer) : Type 0 where
  pub chart : t.met ≡ error_exit
  pub got : t.got ≡ 0x00 ∷ []
  pub fault : t.port.control.fault ≡ 0x02

abbrev pub EmptyRaces : Type 0
EmptyRaces = (turns : ℕ) (p : Port) → phase_of p.control.phase ≡ awaiting → Raced (read_on (suc turns) (begin (answered [] p)))

-- both together, from every port
abbrev pub PublishedExchange : Type 0
PublishedExchange =
    (bytes response : List ℕ) (turns : ℕ) (p : Port) → 1 ≤ length bytes → length bytes ≤ 64 → length response ≤ 64 → length response < turns
    → Written bytes p × Read response turns (answered response (write_transfer bytes (begin p)).port)

-- ---- the recovery

-- "the published recovery, its 60 included, returns to idle from any state within six host accesses, status reads not counted"; it reads the port's status
pub record Recovered (p : Port) : Type 0 where
  pub chart : (recovery (begin p)).met ≡ ends
  pub six : length (recovery (begin p)).made ≤ 6
  pub status : seen (recovery (begin p)) ≡ 0x00
  pub got : (recovery (begin p)).got ≡ p.control.fault ∷ []
  pub bytes : (accesses : List Access) → Makes accesses (recovery (begin p)) → out_of_all accesses p ≡ 0x00 ∷ p.control.fault ∷ 0x00 ∷ []
  pub leaves : (accesses : List Access) → Makes accesses (recovery (begin p)) → accessed_all accesses p ≡ (recovery (begin p)).port

abbrev pub PublishedRecovery : Type 0
PublishedRecovery = (p : Port) → Recovered p

-- "reads the status that the rules name": after any accesses and answers from a fresh port it reads the one that they name (History.antt)
abbrev pub RecoveryNamed : Type 0
RecoveryNamed = (steps : List Step) → (recovery (begin (stepped_all steps fresh))).got ≡ named 0x00 (marks_of steps fresh []) ∷ []
