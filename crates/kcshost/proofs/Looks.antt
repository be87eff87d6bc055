-- Status reads change nothing: what a list of accesses leaves, hands over and reads is that of the list without them.
use mathlib.Core.Path.{◌≡◌, refl, sym, ap, ◌∙◌}
use mathlib.Core.List.{List, [], ◌∷◌, ◌++◌}
use Prim.Native.Nat.{ℕ}
use Rattle.kcs.specs.Port.{Port}
use Rattle.kcs.specs.Accesses.{byte_read}
use Rattle.kcshost.specs.Runs.{Access, read_status, read_data, write_command, write_data, accessed, accessed_all, handed, handed_all, out_of_all, counted_all}

counted_leaves : (accesses : List Access) (p : Port) → accessed_all (counted_all accesses) p ≡ accessed_all accesses p
counted_leaves [] p = refl
counted_leaves (read_status ∷ rest) p = counted_leaves rest p
counted_leaves (read_data ∷ rest) p = counted_leaves rest (accessed read_data p)
counted_leaves (write_command code ∷ rest) p = counted_leaves rest (accessed (write_command code) p)
counted_leaves (write_data byte ∷ rest) p = counted_leaves rest (accessed (write_data byte) p)

pub counted_hands : (accesses : List Access) (p : Port) → handed_all (counted_all accesses) p ≡ handed_all accesses p
counted_hands [] p = refl
counted_hands (read_status ∷ rest) p = counted_hands rest p
counted_hands (read_data ∷ rest) p = counted_hands rest (accessed read_data p)
counted_hands (write_command code ∷ rest) p = counted_hands rest (accessed (write_command code) p)
counted_hands (write_data byte ∷ rest) p =
    ap (λ (more : List (List ℕ)). handed (write_data byte) p ++ more) (counted_hands rest (accessed (write_data byte) p))

counted_reads : (accesses : List Access) (p : Port) → out_of_all (counted_all accesses) p ≡ out_of_all accesses p
counted_reads [] p = refl
counted_reads (read_status ∷ rest) p = counted_reads rest p
counted_reads (read_data ∷ rest) p = ap (λ (more : List ℕ). byte_read p ∷ more) (counted_reads rest (accessed read_data p))
counted_reads (write_command code ∷ rest) p = counted_reads rest (accessed (write_command code) p)
counted_reads (write_data byte ∷ rest) p = counted_reads rest (accessed (write_data byte) p)

pub counted_append : (front back : List Access) → counted_all (front ++ back) ≡ counted_all front ++ counted_all back
counted_append [] back = refl
counted_append (read_status ∷ rest) back = counted_append rest back
counted_append (read_data ∷ rest) back = ap (λ (more : List Access). read_data ∷ more) (counted_append rest back)
counted_append (write_command code ∷ rest) back = ap (λ (more : List Access). write_command code ∷ more) (counted_append rest back)
counted_append (write_data byte ∷ rest) back = ap (λ (more : List Access). write_data byte ∷ more) (counted_append rest back)

-- ---- a list that is this one but for status reads

pub made_leaves : (accesses made : List Access) (p q : Port) → counted_all accesses ≡ made → accessed_all made p ≡ q → accessed_all accesses p ≡ q
made_leaves accesses made p q makes e = sym (counted_leaves accesses p) ∙ ap (λ (all : List Access). accessed_all all p) makes ∙ e

pub made_reads : (accesses made : List Access) (p : Port) (bytes : List ℕ) → counted_all accesses ≡ made → out_of_all made p ≡ bytes → out_of_all accesses p ≡ bytes
made_reads accesses made p bytes makes e = sym (counted_reads accesses p) ∙ ap (λ (all : List Access). out_of_all all p) makes ∙ e
