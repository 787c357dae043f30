-- A table of CIDs fits what its port did, also after a completion; and then it tells what a call is answered.
use Rattle.std.proofs.Common.{◌≡◌, ℕ, Bool, true, false, ◌&&◌, eqb, List, ◌∷◌, Option, Some, None, is_some, refl, sym}
use Rattle.std.proofs.Common.{ap, ap₂, ◌∙◌, subst, inl, inr, eqb-true, Result, length, take, arith, suc, ◌-◌}
use Rattle.std.proofs.Common.{◌≤◌, ◌||◌}
use Rattle.std.specs.Prelude.{IfNone, IfSome, bytes_eq}
use Rattle.std.proofs.lemmas.Slice.Eq.{bytes_eq-Decides}
use Rattle.driver_calls.specs.Answers.{command_answer, pair_answer_of}
use Rattle.std.proofs.lemmas.Bool.{and_parts, and_from, cases_Bool, cond-true, cond-false, or_cases}
use Rattle.plain_lemmas.proofs.Numbers.{eqb_swapped}
use Rattle.nvme_model.specs.EntryBytes.{cqe_fields}
use Rattle.nvme_model.specs.EntryBytes.{Cqe as CqeFields}
use Rattle.nvme_model.specs.Statuses.{same_status}
use Rattle.nvme_model.specs.declared.operation.Op.{Op}
use Rattle.nvme_model.specs.declared.status.Status.{Status}
use Rattle.host_laws.specs.Calls.{is_clean, cqe_status}
use Rattle.host_laws.proofs.Verdicts.{status_eq}
use Rattle.entry_codec.specs.Cqe.{completion_fields}
use Rattle.entry_codec.specs.declared.cqe.Cqe.{Cqe}
use Rattle.driver_cas.specs.Cids.{ChangesOnly, QueueCids, answered, held, answered_status}
use Rattle.driver_cas.specs.declared.held.CidUse.{CidUse}
use Rattle.nvme_model.specs.Operations.{is_pair}
use Rattle.nvme_model.proofs.Runs.{status_same}
use Rattle.driver_calls.specs.Log.{after_got, is_idle, is_tidy, names_cid, state_of}
use Rattle.driver_calls.specs.Views.{since}
use Rattle.driver_calls.specs.Says.{one_outcome, call_outcome, pair_outcome}
use Rattle.driver_calls.specs.declared.event.CidState.{CidState}
use Rattle.driver_calls.specs.declared.event.PortEvent.{PortEvent}
use Rattle.driver_calls.specs.declared.reply.Reply.{Reply}
use Rattle.driver_cas.specs.Tables.{IsHeld, AreCidsReleased, Matches, Reaps, is_its_cid, use_fits, is_free, one_answer}
use Rattle.driver_cas.specs.Tables.{pair_answer, table_outcome}

bytes_self : (p : List ℕ) → bytes_eq p p ≡ true
bytes_self p = (bytes_eq-Decides p p).1 refl

bytes_same : (p q : List ℕ) → bytes_eq p q ≡ true → p ≡ q
bytes_same p q h = (bytes_eq-Decides p q).0 h

-- ---- a completion

-- where a completion names the CID
named_fits : (h : CidUse) (st : CidState) (cqe payload : List ℕ) (status : Status)
    → same_status (cqe_status cqe) status ≡ true → bytes_eq payload payload ≡ true → use_fits h st ≡ true
    → use_fits (answered h status payload) (after_got true cqe payload st) ≡ true
named_fits CidUse.Free CidState.Idle cqe payload status s b f = refl
named_fits CidUse.Free CidState.Waiting cqe payload status s b f = absurd (let g : false ≡ true = f in cc)
named_fits CidUse.Free (CidState.Answered c p) cqe payload status s b f = refl
named_fits CidUse.Waiting CidState.Idle cqe payload status s b f = absurd (let g : false ≡ true = f in cc)
named_fits CidUse.Waiting CidState.Waiting cqe payload status s b f = and_from _ _ s b
named_fits CidUse.Waiting (CidState.Answered c p) cqe payload status s b f = absurd (let g : false ≡ true = f in cc)
named_fits (CidUse.Answered r q) CidState.Idle cqe payload status s b f = absurd (let g : false ≡ true = f in cc)
named_fits (CidUse.Answered r q) CidState.Waiting cqe payload status s b f = absurd (let g : false ≡ true = f in cc)
named_fits (CidUse.Answered r q) (CidState.Answered c p) cqe payload status s b f = f

-- ---- what a call is answered

one_told : (o : Op) (h : CidUse) (st : CidState) → use_fits h st ≡ true → is_free h ≡ false
    → one_outcome o st ≡ one_answer o h
one_told o CidUse.Free st f e = absurd (let g : true ≡ false = e in cc)
one_told o CidUse.Waiting CidState.Idle f e = absurd (let g : false ≡ true = f in cc)
one_told o CidUse.Waiting CidState.Waiting f e = refl
one_told o CidUse.Waiting (CidState.Answered c p) f e = absurd (let g : false ≡ true = f in cc)
one_told o (CidUse.Answered r q) CidState.Idle f e = absurd (let g : false ≡ true = f in cc)
one_told o (CidUse.Answered r q) CidState.Waiting f e = absurd (let g : false ≡ true = f in cc)
one_told o (CidUse.Answered r q) (CidState.Answered c p) f e =
    let a = and_parts (same_status (cqe_status c) r) (bytes_eq p q) f in
    ap₂ (λ (s : Status) (b : List ℕ). Some (command_answer o s b)) (status_eq (cqe_status c) r a.0)
    (bytes_same p q a.1)

pair_told : (h g : CidUse) (st su : CidState) → use_fits h st ≡ true → is_free h ≡ false → use_fits g su ≡ true
    → is_free g ≡ false → pair_outcome st su ≡ pair_answer h g
pair_told CidUse.Free g st su f e d k = absurd (let x : true ≡ false = e in cc)
pair_told h CidUse.Free st su f e d k = absurd (let x : true ≡ false = k in cc)
pair_told CidUse.Waiting g CidState.Idle su f e d k = absurd (let x : false ≡ true = f in cc)
pair_told CidUse.Waiting g CidState.Waiting su f e d k = refl
pair_told CidUse.Waiting g (CidState.Answered c p) su f e d k = absurd (let x : false ≡ true = f in cc)
pair_told (CidUse.Answered r q) g CidState.Idle su f e d k = absurd (let x : false ≡ true = f in cc)
pair_told (CidUse.Answered r q) g CidState.Waiting su f e d k = absurd (let x : false ≡ true = f in cc)
pair_told (CidUse.Answered r q) CidUse.Waiting (CidState.Answered c p) CidState.Idle f e d k =
    absurd (let x : false ≡ true = d in cc)
pair_told (CidUse.Answered r q) CidUse.Waiting (CidState.Answered c p) CidState.Waiting f e d k = refl
pair_told (CidUse.Answered r q) CidUse.Waiting (CidState.Answered c p) (CidState.Answered x y) f e d k =
    absurd (let z : false ≡ true = d in cc)
pair_told (CidUse.Answered r q) (CidUse.Answered s t) (CidState.Answered c p) CidState.Idle f e d k =
    absurd (let x : false ≡ true = d in cc)
pair_told (CidUse.Answered r q) (CidUse.Answered s t) (CidState.Answered c p) CidState.Waiting f e d k =
    absurd (let x : false ≡ true = d in cc)
pair_told (CidUse.Answered r q) (CidUse.Answered s t) (CidState.Answered c p) (CidState.Answered x y) f e d k =
    ap₂ (λ (u v : Status). Some (pair_answer_of u v))
    (status_eq (cqe_status c) r (and_parts (same_status (cqe_status c) r) (bytes_eq p q) f).0)
    (status_eq (cqe_status x) s (and_parts (same_status (cqe_status x) s) (bytes_eq y t) d).0)

-- the table tells what a call is answered whose CIDs are in use
pub table_tells : (cids : QueueCids) (log : List PortEvent) (o : Op) (queue first second : ℕ) → Matches cids log
    → IsHeld cids o queue first second
    → table_outcome o (held cids queue first) (held cids queue second) ≡ call_outcome log queue o first second
table_tells cids log Op.Pair queue first second m u =
    sym (pair_told _ _ _ _ (m queue first) u.0 (m queue second) (u.1 refl))
table_tells cids log Op.Read queue first second m u = sym (one_told Op.Read _ _ (m queue first) u.0)
table_tells cids log Op.Compare queue first second m u = sym (one_told Op.Compare _ _ (m queue first) u.0)
table_tells cids log Op.Write queue first second m u = sym (one_told Op.Write _ _ (m queue first) u.0)
table_tells cids log Op.WriteZeroes queue first second m u = sym (one_told Op.WriteZeroes _ _ (m queue first) u.0)

-- ---- a completion that is taken in

pub record Reads (cqe : List ℕ) (k : Cqe) : Type 0 where
  pub clean : is_clean cqe ≡ true
  pub sqid : (cqe_fields cqe).sqid ≡ k.sqid
  pub cid : (cqe_fields cqe).cid ≡ k.cid
  pub status : cqe_status cqe ≡ k.status

pub reads : (cqe : List ℕ) (k : Cqe) → completion_fields k ≡ cqe_fields cqe → Reads cqe k
reads cqe k h =
    record {
      clean = ap (λ (e : CqeFields). eqb e.dw0 0 && eqb e.dw1 0 && eqb e.crd 0 && eqb e.more 0 && eqb e.dnr 0) (sym h);
      sqid = ap (λ (e : CqeFields). e.sqid) (sym h);
      cid = ap (λ (e : CqeFields). e.cid) (sym h);
      status = ap (λ (e : CqeFields). record { sct = e.sct; sc = e.sc }) (sym h);
    }

names : (cqe : List ℕ) (k : Cqe) (q i : ℕ) → Reads cqe k → names_cid cqe q i ≡ (eqb q k.sqid && eqb i k.cid)
names cqe k q i r =
    ap (λ (b : Bool). b && eqb (cqe_fields cqe).sqid q && eqb (cqe_fields cqe).cid i) r.clean
    ∙ ap₂ (λ (a b : Bool). a && b) (ap (λ (n : ℕ). eqb n q) r.sqid ∙ eqb_swapped k.sqid q)
    (ap (λ (n : ℕ). eqb n i) r.cid ∙ eqb_swapped k.cid i)

unnamed : (cqe payload : List ℕ) (st : CidState) → after_got false cqe payload st ≡ st
unnamed cqe payload CidState.Idle = refl
unnamed cqe payload CidState.Waiting = refl
unnamed cqe payload (CidState.Answered c p) = refl

-- the table fits what came with the completion
pub got_matches : (old new : QueueCids) (cqe payload : List ℕ) (k : Cqe) → completion_fields k ≡ cqe_fields cqe
    → ChangesOnly old new k.sqid k.cid (answered (held old k.sqid k.cid) k.status payload)
    → (log : List PortEvent) → Matches old log → Matches new (PortEvent.Got cqe payload ∷ log)
got_matches old new cqe payload k fields changes log m q i =
    let r = reads cqe k fields in
    let n = names cqe k q i r in
    elim (cases_Bool (eqb q k.sqid && eqb i k.cid)) [
      | inl h ↦
          let a = and_parts (eqb q k.sqid) (eqb i k.cid) h in
          let same : state_of log q i ≡ state_of log k.sqid k.cid =
          ap₂ (state_of log) (eqb-true q k.sqid a.0) (eqb-true i k.cid a.1) in
          ap₂ use_fits (changes q i ∙ cond-true _ _ _ h)
          (ap₂ (λ (b : Bool) (st : CidState). after_got b cqe payload st) (n ∙ h) same)
          ∙ named_fits (held old k.sqid k.cid) (state_of log k.sqid k.cid) cqe payload k.status
          (ap (λ (s : Status). same_status s k.status) r.status ∙ status_same k.status) (bytes_self payload)
          (m k.sqid k.cid)
      | inr h ↦
          ap₂ use_fits (changes q i ∙ cond-false _ _ _ h)
          (ap (λ (b : Bool). after_got b cqe payload (state_of log q i)) (n ∙ h)
          ∙ unnamed cqe payload (state_of log q i)) ∙ m q i
    ]

-- whether there is one, by the statuses
pub pair_answered : (h k : CidUse)
    → (is_some (answered_status h) && is_some (answered_status k)) ≡ is_some (pair_answer h k)
pair_answered CidUse.Free CidUse.Free = refl
pair_answered CidUse.Free CidUse.Waiting = refl
pair_answered CidUse.Free (CidUse.Answered s p) = refl
pair_answered CidUse.Waiting CidUse.Free = refl
pair_answered CidUse.Waiting CidUse.Waiting = refl
pair_answered CidUse.Waiting (CidUse.Answered s p) = refl
pair_answered (CidUse.Answered t q) CidUse.Free = refl
pair_answered (CidUse.Answered t q) CidUse.Waiting = refl
pair_answered (CidUse.Answered t q) (CidUse.Answered s p) = refl

-- ---- an answer that is taken

-- where there is an answer the first CID, and a pair's second, was answered
is_answered : CidUse → Bool
is_answered (CidUse.Answered status payload) = true
is_answered _ = false

one_given : (o : Op) (h : CidUse) (x : Result Reply Status) → one_answer o h ≡ Some x → is_answered h ≡ true
unfolding is_answered
one_given o CidUse.Free x e = absurd (let g : None ≡ Some x = e in cc)
one_given o CidUse.Waiting x e = absurd (let g : None ≡ Some x = e in cc)
one_given o (CidUse.Answered s p) x e = refl

pair_given : (h k : CidUse) (x : Result Reply Status) → pair_answer h k ≡ Some x
    → (is_answered h ≡ true) × (is_answered k ≡ true)
unfolding is_answered
pair_given CidUse.Free k x e = absurd (let g : None ≡ Some x = e in cc)
pair_given CidUse.Waiting k x e = absurd (let g : None ≡ Some x = e in cc)
pair_given (CidUse.Answered s p) CidUse.Free x e = absurd (let g : None ≡ Some x = e in cc)
pair_given (CidUse.Answered s p) CidUse.Waiting x e = absurd (let g : None ≡ Some x = e in cc)
pair_given (CidUse.Answered s p) (CidUse.Answered t q) x e = (refl, refl)

given : (o : Op) (h k : CidUse) (x : Result Reply Status) → table_outcome o h k ≡ Some x
    → (is_answered h ≡ true) × (is_pair (Some o) ≡ true → is_answered k ≡ true)
given Op.Pair h k x e = let a = pair_given h k x e in (a.0, λ p. a.1)
given Op.Read h k x e = (one_given Op.Read h x e, λ p. absurd (let g : false ≡ true = p in cc))
given Op.Compare h k x e = (one_given Op.Compare h x e, λ p. absurd (let g : false ≡ true = p in cc))
given Op.Write h k x e = (one_given Op.Write h x e, λ p. absurd (let g : false ≡ true = p in cc))
given Op.WriteZeroes h k x e = (one_given Op.WriteZeroes h x e, λ p. absurd (let g : false ≡ true = p in cc))

answered_idle : (h : CidUse) (st : CidState) → use_fits h st ≡ true → is_answered h ≡ true → is_idle st ≡ true
unfolding is_answered
answered_idle CidUse.Free st f a = absurd (let g : false ≡ true = a in cc)
answered_idle CidUse.Waiting st f a = absurd (let g : false ≡ true = a in cc)
answered_idle (CidUse.Answered s p) CidState.Idle f a = refl
answered_idle (CidUse.Answered s p) CidState.Waiting f a = absurd (let g : false ≡ true = f in cc)
answered_idle (CidUse.Answered s p) (CidState.Answered c q) f a = refl

-- the table without the call fits what there was
pub taken_matches : (old new : QueueCids) (log : List PortEvent) (o : Op) (queue first second : ℕ)
    (x : Result Reply Status)
    → Matches old log → AreCidsReleased old new o queue first second
    → table_outcome o (held old queue first) (held old queue second) ≡ Some x → Matches new log
taken_matches old new log o queue first second x m changes told q i =
    let a = given o (held old queue first) (held old queue second) x told in
    let here : (cid : ℕ) → is_answered (held old queue cid) ≡ true → i ≡ cid → q ≡ queue
    → is_idle (state_of log q i) ≡ true = λ cid b e f.
    answered_idle (held old q i) (state_of log q i) (m q i) (ap₂ (λ (r j : ℕ). is_answered (held old r j)) f e ∙ b) in
    elim (cases_Bool (is_its_cid o queue first second q i)) [
      | inr h ↦ ap (λ (k : CidUse). use_fits k (state_of log q i)) (changes q i ∙ cond-false _ _ _ h) ∙ m q i
      | inl h ↦
          let b = and_parts (eqb q queue) (eqb i first || (is_pair (Some o) && eqb i second)) h in
          let f = eqb-true q queue b.0 in
          ap (λ (k : CidUse). use_fits k (state_of log q i)) (changes q i ∙ cond-true _ _ _ h)
          ∙ elim (or_cases (eqb i first) (is_pair (Some o) && eqb i second) b.1) [
            | inl y ↦ here first a.0 (eqb-true i first y) f
            | inr y ↦ let z = and_parts (is_pair (Some o)) (eqb i second) y in
                here second (a.1 z.0) (eqb-true i second z.1) f
          ]
    ]

-- whether there was an answer or not
pub take_matches : (old new : QueueCids) (log : List PortEvent) (o : Op) (queue first second : ℕ)
    (r : Option (Result Reply Status)) → Matches old log
    → r ≡ table_outcome o (held old queue first) (held old queue second)
    → IfNone r (new ≡ old) → IfSome r (λ x. AreCidsReleased old new o queue first second) → Matches new log
take_matches old new log o queue first second None m is none some =
    subst (λ (c : QueueCids). Matches c log) (sym none) m
take_matches old new log o queue first second (Some x) m is none some =
    taken_matches old new log o queue first second x m some (sym is)

-- ---- what came since the driver was made

pub since_more : (began log : List PortEvent) (e : PortEvent) → length began ≤ length log
    → since began (e ∷ log) ≡ e ∷ since began log
since_more began log e few =
    let k : suc (length log) - length began ≡ suc (length log - length began) = omega (arith, few) in
    ap (λ (k : ℕ). take k (e ∷ log)) k

-- what a driver's type keeps, after a completion
pub reaps_keep : (began before after : List PortEvent) (old new : QueueCids) → Reaps before after old new
    → length began ≤ length before → is_tidy (since began before) ≡ true → Matches old (since began before)
    → (length began ≤ length after) × (is_tidy (since began after) ≡ true) × Matches new (since began after)
reaps_keep began before after old new (inl s) few tidy m =
    subst (λ (z : List PortEvent × QueueCids). (length began ≤ length z.0) × (is_tidy (since began z.0) ≡ true)
    × Matches z.1 (since began z.0)) (λ i. (sym s.0 i, sym s.1 i)) (few, tidy, m)
reaps_keep began before after old new (inr s) few tidy m =
    let e = PortEvent.Got s.0 s.1 in
    let more = since_more began before e few in
    subst (λ (log : List PortEvent). (length began ≤ length log) × (is_tidy (since began log) ≡ true)
    × Matches new (since began log)) (sym s.2) (
      omega (arith, few),
      ap is_tidy more ∙ tidy,
      subst (λ (log : List PortEvent). Matches new log) (sym more) (s.3 (since began before) m),
    )
