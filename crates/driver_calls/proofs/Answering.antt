-- What a call is answered by the events of its port is true of the history.
use Rattle.std.proofs.Common.{◌≡◌, ℕ, suc, ◌≤◌, true, List, ◌++◌, length, refl, sym, ap, ◌∙◌, subst, None, Option}
use Rattle.std.proofs.Common.{Result, Some, arith, slice_get, ◌||◌, eqb}
use Rattle.std.specs.List.{list_all}
use Rattle.std.proofs.lemmas.Bool.{and_parts}
use Rattle.std.proofs.lemmas.List.Folds.{list_all-append}
use Rattle.nvme_model.specs.Config.{completion_queue}
use Rattle.nvme_model.specs.History.{Past}
use Rattle.nvme_model.specs.Legal.{IsLegal}
use Rattle.nvme_model.specs.Passes.{SharedPast, entries}
use Rattle.nvme_model.specs.Queues.{published_entries}
use Rattle.nvme_model.specs.declared.config.ConfigNumbers.{ConfigNumbers}
use Rattle.nvme_model.specs.declared.entry.Entry.{Entry}
use Rattle.nvme_model.specs.declared.operation.Op.{Op}
use Rattle.nvme_model.specs.declared.status.Status.{Status}
use Rattle.nvme_model.specs.declared.submission.Submission.{Submission}
use Rattle.nvme_model.proofs.Beginnings.{earlier}
use Rattle.host_laws.specs.Beside.{IsSole, is_beside}
use Rattle.host_laws.specs.Calls.{IsFused, IsSingle, takes}
use Rattle.host_laws.proofs.Beside.{entries_append}
use Rattle.host_laws.proofs.Lifts.{not_before}
use Rattle.driver_calls.specs.Events.{IsToldByLog, events, waiting_number}
use Rattle.driver_calls.specs.Log.{is_tidy, newest, sent, state_of}
use Rattle.driver_calls.specs.Says.{CallSays, IsAfter, IsCallIn, IsFusedIn, IsSingleIn, one_outcome, call_outcome}
use Rattle.driver_calls.specs.declared.event.CidState.{CidState}
use Rattle.driver_calls.specs.declared.event.PortEvent.{PortEvent}
use Rattle.driver_calls.specs.declared.reply.Reply.{Reply}
use Rattle.driver_calls.proofs.Following.{events_end}
use Rattle.driver_calls.proofs.Logs.{idle_newest, tidy_before}
use Rattle.driver_calls.proofs.Pairs.{PairCall, pair_says}
use Rattle.driver_calls.proofs.Singles.{IsStateOf, OneSays, SingleCall, single_says}
use Rattle.driver_calls.proofs.Telling.{log_tells}

-- ---- the beginning of a history

-- it is of a sole pass too
pub sole_before : (c : ConfigNumbers) (n p : ℕ) (later start : SharedPast) → IsSole c n p (later ++ start)
    → IsSole c n p start
sole_before c n p later start h =
    let of = λ (m : ℕ × Entry). is_beside c n m.1 || eqb m.0 p in
    (and_parts (list_all of later) (list_all of start) (sym (list_all-append of later start) ∙ h)).1

-- and tidy
pub events_tidy_before : (c : ConfigNumbers) (n p : ℕ) (later start : SharedPast)
    → is_tidy (events c n p (later ++ start)) ≡ true → is_tidy (events c n p start) ≡ true
events_tidy_before c n p later start h = let e = events_end c n p later start in
    tidy_before e.0 (events c n p start) (ap is_tidy (sym e.1) ∙ h)

-- ---- what a log tells of a call's entries

-- the state of the CID that names an entry is true of it
state_says : (c : ConfigNumbers) (past : Past) (n q cid j : ℕ) (log : List PortEvent) → IsToldByLog c past n log
    → completion_queue c q ≡ n → newest log q cid ≡ Some j → IsStateOf c past q j (state_of log q cid)
state_says c past n q cid j log t e w = go (state_of log q cid) refl
  where
    go : (s : CidState) → state_of log q cid ≡ s → IsStateOf c past q j s
    go CidState.Idle z = let f : None ≡ Some j = sym (idle_newest log q cid z) ∙ w in cc
    go CidState.Waiting z = ((t.book q cid j e).0
        (ap (λ (s : CidState). waiting_number s (newest log q cid)) z ∙ w)).unreaped
    go (CidState.Answered cqe payload) z = t.got q cid j cqe payload e z w

-- a command by itself among the entries that were sent is published
single_in : (c : ConfigNumbers) (past : Past) (n q j : ℕ) (o : Op) (log : List PortEvent) → IsToldByLog c past n log
    → completion_queue c q ≡ n → IsSingleIn (sent log q) j o → IsSingle past q j o
single_in c past n q j o log t e x =
    record {
      entry = x.entry;
      published = ap (λ (xs : List Submission). slice_get xs j) (t.entries_are q e) ∙ x.there;
      not_first = x.not_first;
      not_second = x.not_second;
      does = x.does;
    }

-- so is a pair
fused_in : (c : ConfigNumbers) (past : Past) (n q j : ℕ) (log : List PortEvent) → IsToldByLog c past n log
    → completion_queue c q ≡ n → IsFusedIn (sent log q) j → IsFused past q j
fused_in c past n q j log t e x =
    let same = t.entries_are q e in
    record {
      first = x.first;
      second = x.second;
      first_published = ap (λ (xs : List Submission). slice_get xs j) same ∙ x.first_there;
      second_published = ap (λ (xs : List Submission). slice_get xs (suc j)) same ∙ x.second_there;
      first_fuse = x.first_fuse;
      second_fuse = x.second_fuse;
    }

-- ---- the answer

-- what is known where the call is asked about
record Asked (c : ConfigNumbers) (start past : Past) (n q j : ℕ) (log : List PortEvent) : Type 0 where
  legal : IsLegal c past
  told : IsToldByLog c past n log
  own : completion_queue c q ≡ n
  after : (t : ℕ) → takes past t q j ≡ true → IsAfter start t

-- the answer to a command by itself is true
one_call : (c : ConfigNumbers) (start past : Past) (n q j first : ℕ) (o : Op) (log : List PortEvent)
    (P : Option (Result Reply Status) → Type 0) → Asked c start past n q j log
    → IsSingleIn (sent log q) j o × (newest log q first ≡ Some j) → OneSays c start past q j o P
    → P (one_outcome o (state_of log q first))
one_call c start past n q j first o log P x call k =
    let of : SingleCall c start past q j o =
    record { legal = x.legal; single = single_in c past n q j o log x.told x.own call.0; after = x.after } in
    single_says c start past q j o P (state_of log q first) of k (state_says c past n q first j log x.told x.own call.1)

-- so is that to any call
call_says : (c : ConfigNumbers) (start past : Past) (n q j first second : ℕ) (o : Op) (log : List PortEvent)
    → Asked c start past n q j log → IsCallIn log q o first second j
    → CallSays c start past q j o (call_outcome log q o first second)
call_says c start past n q j first second Op.Read log x call =
    one_call c start past n q j first Op.Read log (CallSays c start past q j Op.Read) x call
    (record { none = λ h. h; ok = λ r h y. (h, y); err = λ s h y. (h, y) })
call_says c start past n q j first second Op.Write log x call =
    one_call c start past n q j first Op.Write log (CallSays c start past q j Op.Write) x call
    (record { none = λ h. h; ok = λ r h y. (h, y); err = λ s h y. (h, y) })
call_says c start past n q j first second Op.WriteZeroes log x call =
    one_call c start past n q j first Op.WriteZeroes log (CallSays c start past q j Op.WriteZeroes) x call
    (record { none = λ h. h; ok = λ r h y. (h, y); err = λ s h y. (h, y) })
call_says c start past n q j first second Op.Compare log x call =
    one_call c start past n q j first Op.Compare log (CallSays c start past q j Op.Compare) x call
    (record { none = λ h. h; ok = λ r h y. (h, y); err = λ s h y. (h, y) })
call_says c start past n q j first second Op.Pair log x call =
    let of : PairCall c start past q j =
    record { legal = x.legal; fused = fused_in c past n q j log x.told x.own call.0; after = x.after } in
    pair_says c start past q j (state_of log q first) (state_of log q second) of
    (state_says c past n q first j log x.told x.own call.1)
    (state_says c past n q second (suc j) log x.told x.own call.2)

-- so is that by the events of a sole pass
pub answer_says : (c : ConfigNumbers) (n p : ℕ) (later start : SharedPast) (q j first second : ℕ) (o : Op)
    → IsLegal c (entries (later ++ start)) → IsSole c n p (later ++ start)
    → is_tidy (events c n p (later ++ start)) ≡ true → completion_queue c q ≡ n
    → j ≡ length (sent (events c n p start) q) → IsCallIn (events c n p (later ++ start)) q o first second j
    → CallSays c (entries start) (entries (later ++ start)) q j o
    (call_outcome (events c n p (later ++ start)) q o first second)
answer_says c n p later start q j first second o h sole tidy e at call =
    let same = entries_append later start in
    let whole : IsLegal c (entries later ++ entries start) = subst (λ (past : Past). IsLegal c past) same h in
    let began = log_tells c n p start (earlier c (entries later) (entries start) whole)
    (sole_before c n p later start sole) (events_tidy_before c n p later start tidy) in
    let few : length (published_entries (entries start) q) ≤ j = omega (arith, at, ap length (began.entries_are q e)) in
    let of : Asked c (entries start) (entries (later ++ start)) n q j (events c n p (later ++ start)) = record {
      legal = h;
      told = log_tells c n p (later ++ start) h sole tidy;
      own = e;
      after = λ t k u. not_before c (entries later) (entries start) t q j u whole
          (subst (λ (past : Past). takes past t q j ≡ true) same k) few;
    } in
    call_says c (entries start) (entries (later ++ start)) n q j first second o (events c n p (later ++ start)) of call
