-- A Compare and Write from its Publish to its answer, by the laws alone: others' entries come in between, and the
-- completion is found by its
-- queue and its CID.
use Rattle.std.proofs.Common.{◌&&◌, ◌≡◌, ℕ, suc, true, List, [], ◌∷◌, ◌++◌, length, refl, sym, ap, ap₂, ◌∙◌, subst}
use Rattle.std.proofs.Common.{Some, None, arith, eq-eqb, eqb, slice_get, append_assoc}
use Rattle.std.proofs.lemmas.Bool.{and_from, cond-true}
use Rattle.nvme_model.specs.History.{Past}
use Rattle.nvme_model.specs.Legal.{IsLegal}
use Rattle.nvme_model.specs.Placed.{effect}
use Rattle.nvme_model.specs.Queues.{published_entries}
use Rattle.nvme_model.specs.Statuses.{is_success}
use Rattle.nvme_model.specs.declared.config.ConfigNumbers.{ConfigNumbers}
use Rattle.nvme_model.specs.declared.entry.Entry.{Entry}
use Rattle.nvme_model.specs.declared.entry.PublishLine.{PublishLine}
use Rattle.nvme_model.specs.declared.entry.ReapLine.{ReapLine}
use Rattle.nvme_model.specs.declared.submission.Submission.{Submission}
use Rattle.nvme_model.proofs.Beginnings.{earlier}
use Rattle.host_laws.specs.Beside.{IsBeside}
use Rattle.host_laws.specs.Book.{Book, IsBook, cid_of, with_entry, without_entry}
use Rattle.host_laws.specs.Calls.{takes, IsFused, ReapAnswers, PairSwaps, reaped_post, cqe_status}
use Rattle.host_laws.specs.Batches.{pair_on}
use Rattle.host_laws.proofs.Book.{book_beside, book_found, book_pair, book_reaped, next_numbers}
use Rattle.host_laws.proofs.Elements.{same_some}
use Rattle.host_laws.proofs.Lifts.{fused_later, not_before}
use Rattle.host_laws.proofs.PairCalls.{pair_swaps}
use Rattle.host_laws.proofs.Verdicts.{fuse}

-- the book with both entries of the pair
abbrev pub begun : Past → ℕ → Submission → Submission → Book → Book
begun start q a b book =
    with_entry (with_entry book q (cid_of a) (length (published_entries start q))) q (cid_of b)
    (suc (length (published_entries start q)))

-- what the driver knows of the pair that it published to queue q, of completion queue n, and of the Reap that answers
-- it
pub record Call (c : ConfigNumbers) (n q : ℕ) (start later : Past) (a b : Submission) (r : ReapLine)
    (book : Book) : Type 0 where
  pub legal : IsLegal c (Entry.Reap r ∷ (later ++ (pair_on q a b ∷ start)))
  pub kept : IsBook c start n book
  pub free : book q (cid_of a) ≡ None
  pub free_too : book q (cid_of b) ≡ None
  pub apart : cid_of b ≡ cid_of a → ⊥
  pub first : eqb (fuse a) 1 ≡ true
  pub second : eqb (fuse b) 2 ≡ true
  pub beside : IsBeside c n later
  pub of : r.queue ≡ n

pub record Learnt (c : ConfigNumbers) (n q : ℕ) (start later : Past) (a b : Submission) (r : ReapLine)
    (book : Book) : Type 0 where
  pub swaps : PairSwaps (Entry.Reap r ∷ (later ++ (pair_on q a b ∷ start))) q (length (published_entries start q))
  pub after : effect start swaps.ticket 0 ≡ None
  pub kept : IsBook c (Entry.Reap r ∷ (later ++ (pair_on q a b ∷ start))) r.queue
      (without_entry (begun start q a b book) q (cid_of b))

-- the completion has the second entry's queue and CID, and says success
pub learnt : (c : ConfigNumbers) (n q : ℕ) (start later : Past) (a b : Submission) (r : ReapLine) (book : Book)
    (k : Call c n q start later a b r book) (x : ReapAnswers c (later ++ (pair_on q a b ∷ start)) r)
    → x.queue ≡ q → cid_of x.entry ≡ cid_of b → is_success (cqe_status r.cqe) ≡ true
    → Learnt c n q start later a b r book
learnt c n q start later a b r book k x on cid y =
    let j = length (published_entries start q) in
    let line : PublishLine = record { queue = q; batch = a ∷ b ∷ [] } in
    let begin : Past = pair_on q a b ∷ start in
    let seen : Past = later ++ begin in
    let all : Past = Entry.Reap r ∷ seen in
    let before = earlier c (Entry.Reap r ∷ later) begin k.legal in
    let kept = book_beside c later begin n (begun start q a b book) k.beside
    (book_pair c start n book q a b (earlier c (pair_on q a b ∷ []) start before) k.kept k.free k.free_too
    k.apart) in
    let here = subst (λ (m : ℕ). IsBook c seen m (begun start q a b book)) (sym k.of) kept in
    let found = ap₂ (begun start q a b book) (sym on) (sym cid) ∙ book_found c seen r (begun start q a b book) x here in
    let there : begun start q a b book q (cid_of b) ≡ Some (suc j) =
    cond-true (eqb q q && eqb (cid_of b) (cid_of b)) (Some (suc j)) (with_entry book q (cid_of a) j q (cid_of b))
    (and_from _ _ (eq-eqb q q refl) (eq-eqb (cid_of b) (cid_of b) refl)) in
    let number = same_some x.number (suc j) (begun start q a b book q (cid_of b)) found there in
    let reaped : reaped_post c all q (suc j) ≡ Some x.post = ap₂ (reaped_post c all) (sym on) (sym number) ∙ x.reaped in
    let fused : IsFused begin q j =
    record {
      first = a;
      second = b;
      first_published = ap (slice_get (published_entries begin q)) (omega arith) ∙ next_numbers start line 0 a refl;
      second_published = ap (slice_get (published_entries begin q)) (omega arith) ∙ next_numbers start line 1 b refl;
      first_fuse = k.first;
      second_fuse = k.second;
    } in
    let f = fused_later (Entry.Reap r ∷ later) begin q j fused in
    let w = pair_swaps c all q j x.post f.second k.legal f.second_published f.second_fuse reaped
    (ap (λ (bytes : List ℕ). is_success (cqe_status bytes)) x.cqe ∙ y) in
    let split : all ≡ (Entry.Reap r ∷ (later ++ (pair_on q a b ∷ []))) ++ start =
    ap (λ (p : Past). Entry.Reap r ∷ p) (sym (append_assoc later (pair_on q a b ∷ []) start)) in
    record {
      swaps = w;
      after = not_before c (Entry.Reap r ∷ (later ++ (pair_on q a b ∷ []))) start w.ticket q j 0
          (subst (λ (p : Past). IsLegal c p) split k.legal)
          (subst (λ (p : Past). takes p w.ticket q j ≡ true) split w.takes) (omega arith);
      kept = subst (λ (m : ℕ). IsBook c all r.queue (without_entry (begun start q a b book) m (cid_of b))) on
          (ap_cid (book_reaped c seen r (begun start q a b book) x k.legal here));
    }
  where
    ap_cid : IsBook c (Entry.Reap r ∷ (later ++ (pair_on q a b ∷ start))) r.queue
        (without_entry (begun start q a b book) x.queue (cid_of x.entry))
        → IsBook c (Entry.Reap r ∷ (later ++ (pair_on q a b ∷ start))) r.queue
        (without_entry (begun start q a b book) x.queue (cid_of b))
    ap_cid h = subst (λ (m : ℕ).
        IsBook c (Entry.Reap r ∷ (later ++ (pair_on q a b ∷ start))) r.queue
        (without_entry (begun start q a b book) x.queue m)) cid h
