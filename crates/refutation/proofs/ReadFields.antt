-- What options leave of a completion: where they read two as the same, both name one entry, have one phase tag, and the
-- other fields that aren't ignored.
use Rattle.std.proofs.Common.{◌≡◌, ℕ, ◌+◌, ◌-◌, ◌*◌, ◌/◌, ◌%◌, ◌<◌, ◌≤◌, Bool, true, false, ◌&&◌, cond, List, []}
use Rattle.std.proofs.Common.{◌∷◌, length, refl, sym, ap, ap₂, ◌∙◌, arith, set, take, drop, get_or, inl, inr}
use Rattle.std.proofs.lemmas.Bool.{cases_lt}
use Rattle.std.proofs.lemmas.List.{drop-set-add, drop-set-lt, get_or-drop, get_or-set_other, get_or-set_same, set_past}
use Rattle.std.proofs.lemmas.List.{take-set-le}
use Rattle.nvme_model.specs.EntryBytes.{cqe_fields, field, little_endian}
use Rattle.host_laws.specs.Calls.{cqe_status}
use Rattle.host_laws.proofs.Verdicts.{of_codes}
use Rattle.trace.specs.Options.{does_nothing, high_status, low_status, read_completion, with_one_status, without_crd}
use Rattle.trace.specs.Options.{without_dnr, without_dw0, without_dw1, without_more, without_sqhd}
use Rattle.trace.specs.declared.options.TraceOptions.{TraceOptions}

-- ---- a byte elsewhere

pub field_below : (first count i v : ℕ) (bytes : List ℕ) → i < first
    → field first count (set bytes i v) ≡ field first count bytes
field_below first count i v bytes l =
    ap (λ (xs : List ℕ). little_endian (take ((first + count) - first) xs)) (drop-set-lt first bytes i v l)

pub field_above : (first count k v : ℕ) (bytes : List ℕ) → (first + count) - first ≤ k
    → field first count (set bytes (first + k) v) ≡ field first count bytes
field_above first count k v bytes l =
    ap (λ (xs : List ℕ). little_endian (take ((first + count) - first) xs)) (drop-set-add first bytes k v)
    ∙ ap little_endian (take-set-le ((first + count) - first) (drop first bytes) k v l)

-- ---- the fields of two bytes from 8, 10 or 12 on, which are before the status

-- the last bytes are others
status_aside : (first : ℕ) (any : Bool) (bytes : List ℕ) → first + 2 ≤ 14
    → field first 2 (with_one_status any bytes) ≡ field first 2 bytes
status_aside first any bytes l = go (any && does_nothing (cqe_fields bytes))
  where
    low : List ℕ
    low = set bytes 14 (low_status bytes % 2 + 2)

    at : (i v : ℕ) (xs : List ℕ) → 14 ≤ i → field first 2 (set xs i v) ≡ field first 2 xs
    at i v xs m =
        let same : i ≡ first + (i - first) = omega (arith, l, m) in
        ap (λ (n : ℕ). field first 2 (set xs n v)) same ∙ field_above first 2 (i - first) v xs (omega (arith, l, m))

    go : (b : Bool) → field first 2 (cond b (set low 15 (high_status low / 16 * 16)) bytes) ≡ field first 2 bytes
    go true = at 15 (high_status low / 16 * 16) low (omega arith)
        ∙ at 14 (low_status bytes % 2 + 2) bytes (omega arith)
    go false = refl

high_aside : (first v : ℕ) (b : Bool) (bytes : List ℕ) → first + 2 ≤ 14
    → field first 2 (cond b (set bytes 15 v) bytes) ≡ field first 2 bytes
high_aside first v true bytes l =
    let same : 15 ≡ first + (15 - first) = omega (arith, l) in
    ap (λ (n : ℕ). field first 2 (set bytes n v)) same ∙ field_above first 2 (15 - first) v bytes (omega (arith, l))
high_aside first v false bytes l = refl

-- so are the first eight
front_aside : (first a b c d : ℕ) (x : Bool) (bytes : List ℕ) → a < first → b < first → c < first → d < first
    → field first 2 (cond x (set (set (set (set bytes a 0) b 0) c 0) d 0) bytes) ≡ field first 2 bytes
front_aside first a b c d true bytes k l m n =
    field_below first 2 d 0 (set (set (set bytes a 0) b 0) c 0) n
    ∙ (field_below first 2 c 0 (set (set bytes a 0) b 0) m
    ∙ (field_below first 2 b 0 (set bytes a 0) l ∙ field_below first 2 a 0 bytes k))
front_aside first a b c d false bytes k l m n = refl

-- and SQHD is before SQID and CID
head_aside : (first : ℕ) (x : Bool) (bytes : List ℕ) → 10 ≤ first
    → field first 2 (without_sqhd x bytes) ≡ field first 2 bytes
head_aside first true bytes l =
    field_below first 2 9 0 (set bytes 8 0) (omega (arith, l)) ∙ field_below first 2 8 0 bytes (omega (arith, l))
head_aside first false bytes l = refl

-- what is read before SQHD is left out
abbrev pub before_head : TraceOptions → List ℕ → List ℕ
before_head o bytes =
    let i = o.ignored in
    without_dw1 i.dw1 (without_dw0 i.dw0
    (without_crd i.crd (without_more i.more (without_dnr i.dnr (with_one_status o.statuses_any bytes)))))

before_same : (o : TraceOptions) (first : ℕ) (bytes : List ℕ) → 8 ≤ first → first + 2 ≤ 14
    → field first 2 (before_head o bytes) ≡ field first 2 bytes
before_same o first bytes l m =
    let i = o.ignored in
    let s = with_one_status o.statuses_any bytes in
    let d = without_dnr i.dnr s in
    let n = without_more i.more d in
    let r = without_crd i.crd n in
    let w = without_dw0 i.dw0 r in
    front_aside first 4 5 6 7 i.dw1 w (omega (arith, l)) (omega (arith, l)) (omega (arith, l)) (omega (arith, l))
    ∙ (front_aside first 0 1 2 3 i.dw0 r (omega (arith, l)) (omega (arith, l)) (omega (arith, l)) (omega (arith, l))
    ∙ (high_aside first (high_status n / 64 * 64 + high_status n % 16) i.crd n m
    ∙ (high_aside first (high_status d / 128 * 128 + high_status d % 64) i.more d m
    ∙ (high_aside first (high_status s % 128) i.dnr s m ∙ status_aside first o.statuses_any bytes m))))

read_same : (o : TraceOptions) (first : ℕ) (bytes : List ℕ) → 10 ≤ first → first + 2 ≤ 14
    → field first 2 (read_completion o bytes) ≡ field first 2 bytes
read_same o first bytes l m =
    head_aside first o.ignored.sqhd (before_head o bytes) l ∙ before_same o first bytes (omega (arith, l)) m

pub sqid_read : (o : TraceOptions) (a b : List ℕ) → read_completion o a ≡ read_completion o b
    → (cqe_fields a).sqid ≡ (cqe_fields b).sqid
sqid_read o a b e =
    sym (read_same o 10 a (omega arith) (omega arith))
    ∙ (ap (field 10 2) e ∙ read_same o 10 b (omega arith) (omega arith))

pub cid_read : (o : TraceOptions) (a b : List ℕ) → read_completion o a ≡ read_completion o b
    → (cqe_fields a).cid ≡ (cqe_fields b).cid
cid_read o a b e =
    sym (read_same o 12 a (omega arith) (omega arith))
    ∙ (ap (field 12 2) e ∙ read_same o 12 b (omega arith) (omega arith))

pub sqhd_read : (o : TraceOptions) (a b : List ℕ) → o.ignored.sqhd ≡ false → read_completion o a ≡ read_completion o b
    → (cqe_fields a).sqhd ≡ (cqe_fields b).sqhd
sqhd_read o a b kept e =
    let all : (x : List ℕ) → read_completion o x ≡ before_head o x =
    λ x. ap (λ (h : Bool). without_sqhd h (before_head o x)) kept in
    sym (before_same o 8 a (omega arith) (omega arith))
    ∙ (ap (field 8 2) (sym (all a) ∙ (e ∙ all b)) ∙ before_same o 8 b (omega arith) (omega arith))

-- ---- the last two bytes

pair_word : (xs : List ℕ) → little_endian (take 2 xs) ≡ get_or xs 0 0 + 256 * get_or xs 1 0
pair_word [] = refl
pair_word (a ∷ []) = refl
pair_word (a ∷ b ∷ xs) = let e : a + 256 * (b + 256 * 0) ≡ a + 256 * b = omega arith in e

pub word_is : (bytes : List ℕ) → field 14 2 bytes ≡ low_status bytes + 256 * high_status bytes
word_is bytes =
    pair_word (drop 14 bytes)
    ∙ ap₂ (λ (a b : ℕ). a + 256 * b) (get_or-drop 14 bytes 0 0) (get_or-drop 14 bytes 1 0)

-- one word says the same phase and status as another
pub record SameEnd (a b : List ℕ) : Type 0 where
  pub phase : (cqe_fields a).phase ≡ (cqe_fields b).phase
  pub status : cqe_status a ≡ cqe_status b

same_end : (a b : List ℕ) → field 14 2 a ≡ field 14 2 b → SameEnd a b
same_end a b e =
    record {
      phase = ap (λ (w : ℕ). w % 2) e;
      status = ap (λ (w : ℕ). of_codes ((w / 512) % 8) ((w / 2) % 256)) e;
    }

end_itself : (a : List ℕ) → SameEnd a a
end_itself a = same_end a a refl

joined_ends : (a b d : List ℕ) → SameEnd a b → SameEnd b d → SameEnd a d
joined_ends a b d x y = record { phase = x.phase ∙ y.phase; status = x.status ∙ y.status }

less_word : (low high v k : ℕ) → high ≡ v + 16 * k → let w = low + 256 * v in let x = low + 256 * high in
    (w % 2 ≡ x % 2) × ((w / 512) % 8 ≡ (x / 512) % 8) × ((w / 2) % 256 ≡ (x / 2) % 256)
less_word low high v k e = (omega (arith, e), omega (arith, e), omega (arith, e))

-- what is taken from the upper half of the last byte leaves them
high_less : (bytes : List ℕ) (v k : ℕ) → high_status bytes ≡ v + 16 * k → SameEnd (set bytes 15 v) bytes
high_less bytes v k e =
    elim (cases_lt 15 (length bytes)) [
      | inr past ↦ same_end (set bytes 15 v) bytes (ap (field 14 2) (set_past bytes 15 v past))
      | inl l ↦
          let now : field 14 2 (set bytes 15 v) ≡ low_status bytes + 256 * v =
          word_is (set bytes 15 v)
          ∙ ap₂ (λ (a b : ℕ). a + 256 * b) (get_or-set_other bytes 15 14 v 0 (λ z. omega (arith, z)))
          (get_or-set_same bytes 15 v 0 l) in
          let w = less_word (low_status bytes) (high_status bytes) v k e in
          record {
            phase = ap (λ (x : ℕ). x % 2) now ∙ (w.0 ∙ sym (ap (λ (x : ℕ). x % 2) (word_is bytes)));
            status = ap (λ (x : ℕ). of_codes ((x / 512) % 8) ((x / 2) % 256)) now
                ∙ (ap₂ of_codes w.1 w.2
                ∙ sym (ap (λ (x : ℕ). of_codes ((x / 512) % 8) ((x / 2) % 256)) (word_is bytes)));
          }
    ]

dnr_less : (b : Bool) (bytes : List ℕ) → SameEnd (without_dnr b bytes) bytes
dnr_less true bytes =
    high_less bytes (high_status bytes % 128) (8 * (high_status bytes / 128)) (omega arith)
dnr_less false bytes = end_itself bytes

more_less : (b : Bool) (bytes : List ℕ) → SameEnd (without_more b bytes) bytes
more_less true bytes =
    high_less bytes (high_status bytes / 128 * 128 + high_status bytes % 64) (4 * ((high_status bytes / 64) % 2))
    (omega arith)
more_less false bytes = end_itself bytes

crd_less : (b : Bool) (bytes : List ℕ) → SameEnd (without_crd b bytes) bytes
crd_less true bytes =
    high_less bytes (high_status bytes / 64 * 64 + high_status bytes % 16) ((high_status bytes / 16) % 4) (omega arith)
crd_less false bytes = end_itself bytes

-- what options leave of the end of a completion, whose status was replaced or not
pub ends_read : (o : TraceOptions) (bytes : List ℕ)
    → SameEnd (read_completion o bytes) (with_one_status o.statuses_any bytes)
ends_read o bytes =
    let i = o.ignored in
    let s = with_one_status o.statuses_any bytes in
    let d = without_dnr i.dnr s in
    let n = without_more i.more d in
    let r = without_crd i.crd n in
    let w = without_dw0 i.dw0 r in
    let front : field 14 2 (read_completion o bytes) ≡ field 14 2 r =
    head_aside 14 i.sqhd (before_head o bytes) (omega arith)
    ∙ (front_aside 14 4 5 6 7 i.dw1 w (omega arith) (omega arith) (omega arith) (omega arith)
    ∙ front_aside 14 0 1 2 3 i.dw0 r (omega arith) (omega arith) (omega arith) (omega arith)) in
    joined_ends (read_completion o bytes) r s (same_end (read_completion o bytes) r front)
    (joined_ends r n s (crd_less i.crd n) (joined_ends n d s (more_less i.more d) (dnr_less i.dnr s)))

one_phase : (low high v : ℕ) → ((low % 2 + 2) + 256 * v) % 2 ≡ (low + 256 * high) % 2
one_phase low high v = omega arith

any_high : (low v high : ℕ) → (low + 256 * v) % 2 ≡ (low + 256 * high) % 2
any_high low v high = omega arith

-- a status that is replaced has its phase
phase_kept : (any : Bool) (bytes : List ℕ)
    → (cqe_fields (with_one_status any bytes)).phase ≡ (cqe_fields bytes).phase
phase_kept any bytes = go (any && does_nothing (cqe_fields bytes))
  where
    low : List ℕ
    low = set bytes 14 (low_status bytes % 2 + 2)

    v : ℕ
    v = high_status low / 16 * 16

    changed : (cqe_fields low).phase ≡ (cqe_fields bytes).phase
    changed = elim (cases_lt 14 (length bytes)) [
      | inr past ↦ ap (λ (x : List ℕ). (cqe_fields x).phase) (set_past bytes 14 (low_status bytes % 2 + 2) past)
      | inl l ↦
          let now : field 14 2 low ≡ (low_status bytes % 2 + 2) + 256 * high_status bytes =
          word_is low
          ∙ ap₂ (λ (a b : ℕ). a + 256 * b) (get_or-set_same bytes 14 (low_status bytes % 2 + 2) 0 l)
          (get_or-set_other bytes 14 15 (low_status bytes % 2 + 2) 0 (λ z. omega (arith, z))) in
          ap (λ (x : ℕ). x % 2) now
          ∙ (one_phase (low_status bytes) (high_status bytes) (high_status bytes)
          ∙ sym (ap (λ (x : ℕ). x % 2) (word_is bytes)))
    ]

    last : (cqe_fields (set low 15 v)).phase ≡ (cqe_fields low).phase
    last = elim (cases_lt 15 (length low)) [
      | inr past ↦ ap (λ (x : List ℕ). (cqe_fields x).phase) (set_past low 15 v past)
      | inl l ↦
          let now : field 14 2 (set low 15 v) ≡ low_status low + 256 * v =
          word_is (set low 15 v)
          ∙ ap₂ (λ (a b : ℕ). a + 256 * b) (get_or-set_other low 15 14 v 0 (λ z. omega (arith, z)))
          (get_or-set_same low 15 v 0 l) in
          ap (λ (x : ℕ). x % 2) now
          ∙ (any_high (low_status low) v (high_status low) ∙ sym (ap (λ (x : ℕ). x % 2) (word_is low)))
    ]

    go : (b : Bool) → (cqe_fields (cond b (set low 15 v) bytes)).phase ≡ (cqe_fields bytes).phase
    go true = last ∙ changed
    go false = refl

pub phase_read : (o : TraceOptions) (a b : List ℕ) → read_completion o a ≡ read_completion o b
    → (cqe_fields a).phase ≡ (cqe_fields b).phase
phase_read o a b e =
    sym ((ends_read o a).phase ∙ phase_kept o.statuses_any a)
    ∙ (ap (λ (x : List ℕ). (cqe_fields x).phase) e ∙ ((ends_read o b).phase ∙ phase_kept o.statuses_any b))

pub status_read : (o : TraceOptions) (a b : List ℕ) → o.statuses_any ≡ false
    → read_completion o a ≡ read_completion o b → cqe_status a ≡ cqe_status b
status_read o a b kept e =
    let as_is : (x : List ℕ) → with_one_status o.statuses_any x ≡ x =
    λ x. ap (λ (any : Bool). with_one_status any x) kept in
    sym ((ends_read o a).status ∙ ap cqe_status (as_is a))
    ∙ (ap cqe_status e ∙ ((ends_read o b).status ∙ ap cqe_status (as_is b)))
