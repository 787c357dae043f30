-- CIDs that stay apart: none of an entry that waits to be fetched is in use.
use Rattle.std.proofs.Common.{◌≡◌, ℕ, ◌+◌, ◌≤◌, ◌<◌, false, List, [], ◌∷◌, ◌++◌, refl, sym, ap, ◌∙◌, subst, Some, None}
use Rattle.std.proofs.Common.{inl, inr, arith, eqb, eqb-true, slice_get}
use Rattle.std.specs.List.{list_all}
use Rattle.std.proofs.lemmas.Bool.{and_parts, cases_Bool}
use Rattle.nvme_model.specs.Config.{completion_queue}
use Rattle.nvme_model.specs.History.{Past}
use Rattle.nvme_model.specs.Legal.{IsLegal}
use Rattle.nvme_model.specs.Queues.{fetched_count, published_entries}
use Rattle.nvme_model.specs.Tickets
use Rattle.nvme_model.specs.Tickets.{cids_in_use}
use Rattle.nvme_model.specs.Slots.{fetched_before}
use Rattle.nvme_model.specs.Verdict.{is_in, taken_entries}
use Rattle.nvme_model.specs.declared.config.ConfigNumbers.{ConfigNumbers}
use Rattle.nvme_model.specs.declared.entry.Entry.{Entry}
use Rattle.nvme_model.specs.declared.submission.Submission.{Submission}
use Rattle.host_laws.specs.Beside.{IsBeside, is_beside}
use Rattle.host_laws.specs.Book.{Book, IsAlwaysApart, HasDistinctCids, IsBook, cid_of}
use Rattle.host_laws.specs.Calls.{IsEntryWaiting, reaped_post}
use Rattle.host_laws.proofs.Beside.{published_beside, reaped_post_beside}
use Rattle.host_laws.proofs.Elements.{any_in, same_some}
use Rattle.host_laws.proofs.InUse.{in_use}
use Rattle.host_laws.proofs.OneAnswer.{Known, posted_answers_known, reaped_at}
use Rattle.host_laws.proofs.Reaps.{none_if}
use Rattle.host_laws.proofs.TicketsApart.{within_fetched}
use Rattle.host_laws.proofs.Later.{published_later}

-- ---- what isn't fetched isn't answered, nor in use

pub known_fetched : (c : ConfigNumbers) (past : Past) (q j : ℕ) → IsLegal c past → Known past q j
    → j < fetched_count past q
known_fetched c past q j h k =
    let w = subst (λ (x : ℕ). fetched_before past k.ticket + taken_entries (Tickets.ticket past k.ticket).verdict
    ≤ fetched_count past x) k.queue (within_fetched c past k.ticket h k.some k.known) in
    omega (arith, w, k.number, k.posted, k.few)

pub unfetched_unreaped : (c : ConfigNumbers) (past : Past) (q j : ℕ) → IsLegal c past → fetched_count past q ≤ j
    → reaped_post c past q j ≡ None
unfetched_unreaped c past q j h l =
    none_if (reaped_post c past q j) (λ p s.
    let y = reaped_at c past q j p s in
    omega (
      arith,
      known_fetched c past q j h
          (posted_answers_known c past (completion_queue c q) y.index (record { queue = q; number = j; post = p }) h
          y.at),
      l,
    ))

pub no_conflict : (c : ConfigNumbers) (past : Past) (q j : ℕ) (s : Submission) → IsLegal c past
    → HasDistinctCids c past q
    → fetched_count past q ≤ j → slice_get (published_entries past q) j ≡ Some s
    → is_in (cid_of s) (cids_in_use past q) ≡ false
no_conflict c past q j s h a l e =
    elim (cases_Bool (is_in (cid_of s) (cids_in_use past q))) [
      | inr o ↦ o
      | inl o ↦
          let x = any_in (λ m. eqb m (cid_of s)) (cids_in_use past q) o in
          let same = eqb-true x.0 (cid_of s) x.2 in
          let w = in_use c past q x.0 h x.1 in
          let here : IsEntryWaiting c past q x.0 j =
          record { entry = s; published = e; says = sym same; unreaped = unfetched_unreaped c past q j h l } in
          absurd (omega (arith, a x.0 w.0 j w.1 here, w.2, l))
    ]

-- ---- they stay apart

pub book_apart : (c : ConfigNumbers) (past : Past) (n : ℕ) (book : Book) (q : ℕ) → IsBook c past n book
    → completion_queue c q ≡ n → HasDistinctCids c past q
book_apart c past n book q b e = λ cid i j x y. same_some i j (book q cid) ((b q cid i e).1 x) ((b q cid j e).1 y)

pub always_empty : (c : ConfigNumbers) (past : Past) (q : ℕ) → published_entries past q ≡ [] → IsAlwaysApart c past q
always_empty c past q e = λ later before same cid i j x y.
    let f = published_later later before q i x.entry x.published in
    let g : None ≡ Some x.entry =
    sym (ap (λ (xs : List Submission). slice_get xs i) (ap (λ (p : Past). published_entries p q) same ∙ e)) ∙ f in
    absurd cc

pub always_more : (c : ConfigNumbers) (e : Entry) (past : Past) (q : ℕ) → IsAlwaysApart c past q
    → HasDistinctCids c (e ∷ past) q → IsAlwaysApart c (e ∷ past) q
always_more c e past q a b = λ later before same. go later before same
  where
    go : (later before : Past) → later ++ before ≡ e ∷ past → HasDistinctCids c before q
    go [] before same = subst (λ (p : Past). HasDistinctCids c p q) (sym same) b
    go (x ∷ later) before same = a later before (let f : x ∷ (later ++ before) ≡ e ∷ past = same in cc)

apart_beside : (c : ConfigNumbers) (later past : Past) (n q : ℕ) → IsBeside c n later → completion_queue c q ≡ n
    → HasDistinctCids c past q → HasDistinctCids c (later ++ past) q
apart_beside c later past n q h e a = λ cid i j x y. a cid i j (back cid i x) (back cid j y)
  where
    back : (cid i : ℕ) → IsEntryWaiting c (later ++ past) q cid i → IsEntryWaiting c past q cid i
    back cid i w =
        record {
          entry = w.entry;
          published = ap (λ (xs : List Submission). slice_get xs i) (sym (published_beside c later past n q h e))
              ∙ w.published;
          says = w.says;
          unreaped = sym (reaped_post_beside c later past n q i h e) ∙ w.unreaped;
        }

pub always_beside : (c : ConfigNumbers) (later past : Past) (n q : ℕ) → IsBeside c n later → completion_queue c q ≡ n
    → IsAlwaysApart c past q → IsAlwaysApart c (later ++ past) q
always_beside c [] past n q h e a = a
always_beside c (x ∷ later) past n q h e a =
    always_more c x (later ++ past) q
    (always_beside c later past n q (and_parts (is_beside c n x) (list_all (is_beside c n) later) h).1 e a)
    (apart_beside c (x ∷ later) past n q h e (a [] past refl))
