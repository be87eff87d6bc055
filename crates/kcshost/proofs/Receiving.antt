-- The published read: the port that gives a response, byte by byte.
use mathlib.Core.Path.{◌≡◌, refl, sym, ap, ◌∙◌}
use mathlib.Core.List.{List, [], ◌∷◌, ◌++◌, append_assoc}
use Prim.Native.Nat.{ℕ, zero, suc, ◌+◌, ◌≤◌, ◌<◌}
use native.Mathlib.Omega.{arith}
use lib.ListN.{length, get_or}
use borrow.Author.Tests.{lt-ltb, le-ltb}
use Rattle.kcs.specs.Port.{Port}
use Rattle.kcs.specs.Accesses.{data_read, data_written}
use Rattle.kcshost.specs.Runs.{Access, read_data, write_data, accessed_all, out_of_all}
use Rattle.kcshost.specs.Host.{ends, leaves, does, put, wait_obf, receive, if_reading, conclude, read_transfer}
use Rattle.kcshost.proofs.Boxes.{no_wait, as_expected, no_longer_waits, reads, reads_no_more}
use Rattle.kcshost.proofs.Sending.{at, snoc}

-- a port with OBF set on a byte, in the phase that is read, 4, or idle, 0
abbrev pub giving : (phase command output fault length next end : ℕ) (request response : List ℕ) → Port
giving phase command output fault length next end request response =
    record {
      control =
          record { phase = phase; command = command; full = 1; output = output; fault = fault; length = length; next = next; end = end };
      request = request;
      response = response;
    }

-- what the host does for a byte that it sees and those behind it
abbrev pub receiving : List ℕ → List Access
receiving [] = read_data ∷ write_data 0x68 ∷ read_data ∷ []
receiving (byte ∷ left) = read_data ∷ write_data 0x68 ∷ receiving left

module _ (length₀ : ℕ) (request response : List ℕ) where
  module _ (command output fault next end : ℕ) where
    pub continues
        : next < end → end ≤ 64
        → data_written 0x68 (data_read (giving 4 command output fault length₀ next end request response))
        ≡ giving 4 0 (get_or response next 0) fault length₀ (next + 1) end request response
    continues more inside = rw (lt-ltb next end more, lt-ltb next 64 (omega (arith, more, inside)))

    pub finishes
        : end ≤ next
        → data_written 0x68 (data_read (giving 4 command output fault length₀ next end request response)) ≡ giving 0 0 0 0 length₀ next end request response
    finishes none = rw (le-ltb next end none)

  -- the chart's end, in idle
  pub concluded
      : (command fault next end : ℕ) (made : List Access) (got : List ℕ) (turns : ℕ)
      → read_transfer (suc turns) (at (giving 0 command 0 fault length₀ next end request response) made got)
      ≡ record { port = data_read (giving 0 command 0 fault length₀ next end request response); made = made ++ (read_data ∷ []); got = got; met = ends }
  concluded command fault next end made got turns =
      let t = at (giving 0 command 0 fault length₀ next end request response) made got in
      let go = wait_obf (receive (put (write_data 0x68) (λ u. read_transfer turns u))) in
      no_wait (if_reading go conclude) t
      ∙ reads_no_more go conclude t refl
      ∙ as_expected (wait_obf (does read_data (leaves ends))) t 0 refl
      ∙ no_longer_waits (does read_data (leaves ends)) t refl

  -- a turn of the loop
  turned
      : (command output fault next end : ℕ) (made : List Access) (got : List ℕ) (turns : ℕ)
      → read_transfer (suc turns) (at (giving 4 command output fault length₀ next end request response) made got)
      ≡ read_transfer turns
      (at
      (data_written 0x68 (data_read (giving 4 command output fault length₀ next end request response)))
      ((made ++ (read_data ∷ [])) ++ (write_data 0x68 ∷ []))
      (got ++ (output ∷ [])))
  turned command output fault next end made got turns =
      let t = at (giving 4 command output fault length₀ next end request response) made got in
      let go = receive (put (write_data 0x68) (λ u. read_transfer turns u)) in
      let read = at (data_read (giving 4 command output fault length₀ next end request response)) (made ++ (read_data ∷ [])) (got ++ (output ∷ [])) in
      no_wait (if_reading (wait_obf go) conclude) t
      ∙ reads (wait_obf go) conclude t refl
      ∙ no_longer_waits go t refl
      ∙ no_wait (does (write_data 0x68) (λ u. read_transfer turns u)) read

  -- the bytes that are left stand in the response from the next place on
  abbrev pub Left : List ℕ → ℕ → ℕ → Type 0
  Left left next end = (next + length left ≡ end) × ((j : ℕ) → j < length left → get_or response (next + j) 0 ≡ get_or left j 0)

  first_left : (byte : ℕ) (left : List ℕ) (next end : ℕ) → Left (byte ∷ left) next end → get_or response next 0 ≡ byte
  first_left byte left next end l =
      let here : next ≡ next + 0 = omega arith in
      ap (λ (n : ℕ). get_or response n 0) here ∙ l.1 0 (omega arith)

  rest_left : (byte : ℕ) (left : List ℕ) (next end : ℕ) → Left (byte ∷ left) next end → Left left (next + 1) end
  rest_left byte left next end l = (
    omega (arith, l.0),
    λ j below.
        let there : next + 1 + j ≡ next + suc j = omega arith in
        ap (λ (n : ℕ). get_or response n 0) there ∙ l.1 (suc j) (omega (arith, below)),
  )

  pub read_bytes
      : (left : List ℕ) (command output fault next end : ℕ) (made : List Access) (got : List ℕ) (turns : ℕ)
      → Left left next end → end ≤ 64 → suc (length left) < turns
      → read_transfer turns (at (giving 4 command output fault length₀ next end request response) made got)
      ≡ record {
        port = accessed_all (receiving left) (giving 4 command output fault length₀ next end request response);
        made = made ++ receiving left;
        got = got ++ (output ∷ left);
        met = ends;
      }
  read_bytes left command output fault next end made got zero l inside enough = absurd (omega (arith, enough))
  read_bytes left command output fault next end made got (suc zero) l inside enough = absurd (omega (arith, enough))
  read_bytes [] command output fault next end made got (suc (suc turns)) l inside enough =
      let now = (made ++ (read_data ∷ [])) ++ (write_data 0x68 ∷ []) in
      let done = finishes command output fault next end (omega (arith, l.0)) in
      turned command output fault next end made got (suc turns)
      ∙ ap (λ (p : Port). read_transfer (suc turns) (at p now (got ++ (output ∷ [])))) done
      ∙ concluded 0 0 next end now (got ++ (output ∷ [])) turns
      ∙ (λ i. record { port = data_read (sym done i); made = snoc made read_data (write_data 0x68) (read_data ∷ []) i; got = got ++ (output ∷ []); met = ends })
  read_bytes (byte ∷ left) command output fault next end made got (suc (suc turns)) l inside enough =
      let now = (made ++ (read_data ∷ [])) ++ (write_data 0x68 ∷ []) in
      let p = giving 4 command output fault length₀ next end request response in
      let step
      : data_written 0x68 (data_read p) ≡ giving 4 0 byte fault length₀ (next + 1) end request response =
      continues command output fault next end (omega (arith, l.0)) inside
      ∙ ap (λ (b : ℕ). giving 4 0 b fault length₀ (next + 1) end request response) (first_left byte left next end l) in
      turned command output fault next end made got (suc turns)
      ∙ ap (λ (q : Port). read_transfer (suc turns) (at q now (got ++ (output ∷ [])))) step
      ∙ read_bytes left 0 byte fault (next + 1) end now (got ++ (output ∷ [])) (suc turns) (rest_left byte left next end l) inside (omega (arith, enough))
      ∙ (λ i. record {
        port = accessed_all (receiving left) (sym step i);
        made = snoc made read_data (write_data 0x68) (receiving left) i;
        got = append_assoc got (output ∷ []) (byte ∷ left) i;
        met = ends;
      })

  -- the port that it leaves: idle, with OBF clear
  pub read_leaves
      : (left : List ℕ) (command output fault next end : ℕ) → Left left next end → end ≤ 64
      → (last : ℕ)
      × (accessed_all (receiving left) (giving 4 command output fault length₀ next end request response) ≡ data_read (giving 0 0 0 0 length₀ last end request response))
  read_leaves [] command output fault next end l inside = (next, ap data_read (finishes command output fault next end (omega (arith, l.0))))
  read_leaves (byte ∷ left) command output fault next end l inside =
      let later = read_leaves left 0 (get_or response next 0) fault (next + 1) end (rest_left byte left next end l) inside in
      (later.0, ap (accessed_all (receiving left)) (continues command output fault next end (omega (arith, l.0)) inside) ∙ later.1)

  -- the bytes that it reads: the one that it sees, those behind it, and the dummy byte
  pub read_gets
      : (left : List ℕ) (command output fault next end : ℕ) → Left left next end → end ≤ 64
      → out_of_all (receiving left) (giving 4 command output fault length₀ next end request response) ≡ (output ∷ left) ++ (0x00 ∷ [])
  read_gets [] command output fault next end l inside =
      ap (λ (p : Port). output ∷ out_of_all (read_data ∷ []) p) (finishes command output fault next end (omega (arith, l.0)))
  read_gets (byte ∷ left) command output fault next end l inside =
      ap (λ (p : Port). output ∷ out_of_all (receiving left) p) (continues command output fault next end (omega (arith, l.0)) inside)
      ∙ ap (λ (more : List ℕ). output ∷ more) (read_gets left 0 (get_or response next 0) fault (next + 1) end (rest_left byte left next end l) inside)
      ∙ ap (λ (b : ℕ). output ∷ ((b ∷ left) ++ (0x00 ∷ []))) (first_left byte left next end l)
