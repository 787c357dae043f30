-- What a log says of a CID, and of an entry that it published.
use Rattle.std.proofs.Common.{◌≡◌, ℕ, zero, suc, ◌<◌, Bool, true, false, not, ◌&&◌, cond, List, [], ◌∷◌, ◌++◌, length}
use Rattle.std.proofs.Common.{refl, sym, ap, ap₂, ◌∙◌, subst, Option, Some, None, inl, inr, eq-eqb, eqb, eqb-true}
use Rattle.std.proofs.Common.{ltb-true, nat_lt, slice_get}
use Rattle.std.proofs.lemmas.Bool.{and_parts, or_parts, cond-false}
use Rattle.plain_lemmas.proofs.Numbers.{eqb_swapped}
use Rattle.nvme_model.specs.EntryBytes.{cqe_fields}
use Rattle.nvme_model.specs.declared.submission.Submission.{Submission}
use Rattle.host_laws.specs.Book.{cid_of}
use Rattle.host_laws.specs.Calls.{is_clean}
use Rattle.host_laws.proofs.Elements.{get_cases, same_some}
use Rattle.driver_calls.specs.Log.{after_got, has_cid, has_free_cid, is_idle, is_tidy, is_tidy_batch, names_cid, newest}
use Rattle.driver_calls.specs.Log.{newest_number, sent, state_of}
use Rattle.driver_calls.specs.declared.event.CidState.{CidState}
use Rattle.driver_calls.specs.declared.event.PortEvent.{PortEvent}

-- ---- which entry a CID names

-- entries with other CIDs leave what the CID named
pub unnamed_number : (k : ℕ) (batch : List Submission) (cid : ℕ) (old : Option ℕ) → has_cid cid batch ≡ false
    → newest_number k batch cid old ≡ old
unnamed_number k [] cid old h = refl
unnamed_number k (s ∷ batch) cid old h =
    let a = or_parts (eqb (cid_of s) cid) (has_cid cid batch) h in
    unnamed_number (suc k) batch cid (cond (eqb (cid_of s) cid) (Some k) old) a.1
    ∙ cond-false (eqb (cid_of s) cid) (Some k) old a.0

-- a completion leaves no CID idle that wasn't
idle_before : (b : Bool) (cqe payload : List ℕ) (s : CidState) → after_got b cqe payload s ≡ CidState.Idle
    → s ≡ CidState.Idle
idle_before true cqe payload CidState.Idle e = refl
idle_before true cqe payload CidState.Waiting e = cc
idle_before true cqe payload (CidState.Answered x y) e = e
idle_before false cqe payload s e = e

-- an idle CID names no entry
pub idle_newest : (log : List PortEvent) (q cid : ℕ) → state_of log q cid ≡ CidState.Idle → newest log q cid ≡ None
idle_newest [] q cid e = refl
idle_newest (PortEvent.Sent p batch ∷ log) q cid e = go (eqb p q) (has_cid cid batch) refl e (idle_newest log q cid)
  where
    go : (a h : Bool) → has_cid cid batch ≡ h → cond (a && h) CidState.Waiting (state_of log q cid) ≡ CidState.Idle
        → (state_of log q cid ≡ CidState.Idle → newest log q cid ≡ None)
        → cond a (newest_number (length (sent log q)) batch cid (newest log q cid)) (newest log q cid) ≡ None
    go true true z f ih = cc
    go true false z f ih = unnamed_number (length (sent log q)) batch cid (newest log q cid) z ∙ ih f
    go false h z f ih = ih f
idle_newest (PortEvent.Got cqe payload ∷ log) q cid e =
    idle_newest log q cid (idle_before (names_cid cqe q cid) cqe payload (state_of log q cid) e)

-- a CID that stays answered over a Sent names the entry that it named
pub record WasAnswered (log : List PortEvent) (q cid j : ℕ) (cqe payload : List ℕ) : Type 0 where
  pub state : state_of log q cid ≡ CidState.Answered cqe payload
  pub number : newest log q cid ≡ Some j

-- it does
pub answered_before_sent : (log : List PortEvent) (p : ℕ) (batch : List Submission) (q cid j : ℕ) (cqe payload : List ℕ)
    → state_of (PortEvent.Sent p batch ∷ log) q cid ≡ CidState.Answered cqe payload
    → newest (PortEvent.Sent p batch ∷ log) q cid ≡ Some j → WasAnswered log q cid j cqe payload
answered_before_sent log p batch q cid j cqe payload e o = go (eqb p q) (has_cid cid batch) refl e o
  where
    go : (a h : Bool) → has_cid cid batch ≡ h
        → cond (a && h) CidState.Waiting (state_of log q cid) ≡ CidState.Answered cqe payload
        → cond a (newest_number (length (sent log q)) batch cid (newest log q cid)) (newest log q cid) ≡ Some j
        → WasAnswered log q cid j cqe payload
    go true true z f g = absurd (let x = f in cc)
    go true false z f g = record {
      state = f;
      number = sym (unnamed_number (length (sent log q)) batch cid (newest log q cid) z) ∙ g;
    }
    go false h z f g = record { state = f; number = g }

-- ---- the numbers of 16 bits

-- what comes later can be left out
pub tidy_before : (xs log : List PortEvent) → is_tidy (xs ++ log) ≡ true → is_tidy log ≡ true
tidy_before [] log h = h
tidy_before (PortEvent.Sent q batch ∷ xs) log h =
    tidy_before xs log (and_parts (is_tidy (xs ++ log)) (nat_lt q 65536)
    (and_parts (is_tidy (xs ++ log) && nat_lt q 65536) (is_tidy_batch (xs ++ log) q batch) h).0).0
tidy_before (PortEvent.Got cqe payload ∷ xs) log h = tidy_before xs log h

-- a free CID is a number of 16 bits
free_cid_narrow : (log : List PortEvent) (q : ℕ) (s : Submission) → has_free_cid log q s ≡ true → cid_of s < 65536
free_cid_narrow log q s h =
    ltb-true (cid_of s) 65536 (and_parts (nat_lt (cid_of s) 65536) (is_idle (state_of log q (cid_of s))) h).0

-- the parts of a tidy pair
pub record TidyPair (log : List PortEvent) (q : ℕ) (s t : Submission) : Type 0 where
  pub first : has_free_cid log q s ≡ true
  pub second : has_free_cid log q t ≡ true
  pub unlike : cid_of t ≡ cid_of s → ⊥

-- a tidy pair has them
pub tidy_pair : (log : List PortEvent) (q : ℕ) (s t : Submission) → is_tidy_batch log q (s ∷ t ∷ []) ≡ true
    → TidyPair log q s t
tidy_pair log q s t h =
    let a = and_parts (has_free_cid log q s && has_free_cid log q t) (not (eqb (cid_of t) (cid_of s))) h in
    let b = and_parts (has_free_cid log q s) (has_free_cid log q t) a.0 in
    record {
      first = b.0;
      second = b.1;
      unlike = λ e. unlike (eqb (cid_of t) (cid_of s)) (eq-eqb (cid_of t) (cid_of s) e) a.1;
    }
  where
    unlike : (b : Bool) → b ≡ true → not b ≡ true → ⊥
    unlike true e f = cc
    unlike false e f = cc

-- so is each CID of a tidy batch
batch_narrow : (log : List PortEvent) (q : ℕ) (batch : List Submission) (i : ℕ) (s : Submission)
    → is_tidy_batch log q batch ≡ true → slice_get batch i ≡ Some s → cid_of s < 65536
batch_narrow log q [] i s h e = absurd (let f = h in cc)
batch_narrow log q (x ∷ []) zero s h e =
    subst (λ (y : Submission). cid_of y < 65536) (same_some x s (Some x) refl e) (free_cid_narrow log q x h)
batch_narrow log q (x ∷ []) (suc i) s h e = absurd (let f : None ≡ Some s = e in cc)
batch_narrow log q (x ∷ y ∷ []) zero s h e =
    subst (λ (z : Submission). cid_of z < 65536) (same_some x s (Some x) refl e)
    (free_cid_narrow log q x (tidy_pair log q x y h).first)
batch_narrow log q (x ∷ y ∷ []) (suc zero) s h e =
    subst (λ (z : Submission). cid_of z < 65536) (same_some y s (Some y) refl e)
    (free_cid_narrow log q y (tidy_pair log q x y h).second)
batch_narrow log q (x ∷ y ∷ []) (suc (suc i)) s h e = absurd (let f : None ≡ Some s = e in cc)
batch_narrow log q (x ∷ y ∷ z ∷ batch) i s h e = absurd (let f = h in cc)

-- the submission queue and the CID of an entry that a tidy log published are numbers of 16 bits
pub record IsNarrow (q : ℕ) (s : Submission) : Type 0 where
  pub queue : q < 65536
  pub cid : cid_of s < 65536

-- they are
pub sent_narrow : (log : List PortEvent) (q j : ℕ) (s : Submission) → is_tidy log ≡ true
    → slice_get (sent log q) j ≡ Some s → IsNarrow q s
sent_narrow [] q j s h e = absurd (let f : None ≡ Some s = e in cc)
sent_narrow (PortEvent.Got cqe payload ∷ log) q j s h e = sent_narrow log q j s h e
sent_narrow (PortEvent.Sent p batch ∷ log) q j s h e =
    let a = and_parts (is_tidy log && nat_lt p 65536) (is_tidy_batch log p batch) h in
    let b = and_parts (is_tidy log) (nat_lt p 65536) a.0 in
    elim (get_cases (sent log q) (cond (eqb p q) batch []) j s e) [
      | inl x ↦ sent_narrow log q j s b.0 x
      | inr m ↦ new b.1 a.1 (eqb p q) refl m.0 m.2
    ]
  where
    new : nat_lt p 65536 ≡ true → is_tidy_batch log p batch ≡ true → (z : Bool) → eqb p q ≡ z → (i : ℕ)
        → slice_get (cond z batch []) i ≡ Some s → IsNarrow q s
    new l t true z i x = record {
      queue = subst (λ (k : ℕ). k < 65536) (eqb-true p q z) (ltb-true p 65536 l);
      cid = batch_narrow log p batch i s t x;
    }
    new l t false z i x = absurd (let f : None ≡ Some s = x in cc)

-- ---- which CID a completion names

-- a completion of this submission queue and CID names them and no others
pub names_one : (cqe : List ℕ) (a b q cid : ℕ) → is_clean cqe ≡ true → (cqe_fields cqe).sqid ≡ a
    → (cqe_fields cqe).cid ≡ b → names_cid cqe q cid ≡ (eqb q a && eqb cid b)
names_one cqe a b q cid k e f =
    go (is_clean cqe) (eqb (cqe_fields cqe).sqid q) (eqb (cqe_fields cqe).cid cid) k
    (ap (λ (x : ℕ). eqb x q) e ∙ eqb_swapped a q) (ap (λ (x : ℕ). eqb x cid) f ∙ eqb_swapped b cid)
  where
    go : (k x y : Bool) → k ≡ true → x ≡ eqb q a → y ≡ eqb cid b → (k && x && y) ≡ (eqb q a && eqb cid b)
    go true x y k e f = ap₂ (λ (u v : Bool). u && v) e f
    go false x y k e f = absurd (let g = k in cc)
