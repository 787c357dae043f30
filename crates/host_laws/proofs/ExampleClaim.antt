-- A slot from its claim to its release, by the laws alone, whatever others do in between.
use Rattle.std.proofs.Common.{refl, ◌≡◌, ℕ, suc, ◌<◌, true, false, ◌∷◌, ◌++◌, length, ap, subst, ◌∙◌, Some, inr}
use Rattle.std.proofs.lemmas.Bool.{and_from}
use Rattle.nvme_model.specs.Array.{has_block}
use Rattle.nvme_model.specs.Config.{completion_queue}
use Rattle.nvme_model.specs.History.{Past}
use Rattle.nvme_model.specs.Legal.{IsLegal}
use Rattle.nvme_model.specs.Passes.{SharedPast, entries, places}
use Rattle.nvme_model.specs.Queues.{published_entries}
use Rattle.nvme_model.specs.Slots.{Name, Swap, believed, disciplined, holder, keeps_discipline, swaps}
use Rattle.nvme_model.specs.Statuses.{is_success}
use Rattle.nvme_model.specs.declared.array.Range.{Range}
use Rattle.nvme_model.specs.declared.config.ConfigNumbers.{ConfigNumbers}
use Rattle.nvme_model.specs.declared.entry.PostLine.{PostLine}
use Rattle.nvme_model.specs.declared.submission.Submission.{Submission}
use Rattle.host_laws.specs.Beside.{IsSole}
use Rattle.host_laws.specs.Book.{IsAlwaysApart}
use Rattle.host_laws.specs.Calls.{IsProperPair, reaped_post, cqe_status}
use Rattle.host_laws.specs.Batches.{pair_line, pair_on}
use Rattle.host_laws.specs.Discipline.{others_keep}
use Rattle.host_laws.specs.Claims.{IsClaim, IsRelease, IsWon, all_drawn, claim_of, claims_only_on, is_released_on}
use Rattle.host_laws.specs.Claims.{lba_of, release_of}
use Rattle.host_laws.proofs.Beliefs.{believed_holds}
use Rattle.host_laws.proofs.Beside.{entries_append, own_beside}
use Rattle.host_laws.proofs.Claims.{drawn_later, fresh_unreleased, serial_fresh, won_believed}
use Rattle.host_laws.proofs.Discipline.{area_has, swaps_later}
use Rattle.host_laws.proofs.Elements.{contains_in, in_contains}
use Rattle.host_laws.proofs.OwnPublishes.{claim_published, release_published, released_claim, won_releases}
use Rattle.host_laws.proofs.Publishing.{claim_keeps}
use Rattle.host_laws.proofs.ReleaseAnswers.{release_succeeds}
use Rattle.host_laws.proofs.Sharing.{disciplined_behind}
use Rattle.host_laws.proofs.Successes.{reaped_is_success}

-- a claim under a serial above the last keeps the discipline, and nobody has released its name
pub record Claiming (c : ConfigNumbers) (slots : Range) (q : ℕ) (start : Past) (a b : Submission) (n : Name) : Type 0
  where
    pub kept : disciplined c slots (pair_on q a b ∷ start) ≡ true
    pub unreleased : is_released_on c (pair_on q a b ∷ start) (completion_queue c q) (lba_of a) n ≡ false

pub claiming : (c : ConfigNumbers) (slots : Range) (q last : ℕ) (start : Past) (a b : Submission) (n : Name)
    → disciplined c slots start ≡ true → has_block slots (lba_of a) ≡ true → all_drawn slots start n.host last ≡ true
    → last < n.serial
    → IsClaim a b n → Claiming c slots q start a b n
claiming c slots q last start a b n d v h l x =
    let fresh = serial_fresh slots start last n h l in
    record {
      kept = and_from (disciplined c slots start) (keeps_discipline c slots start (pair_line q a b)) d
          (claim_keeps c slots start q a b n x.pair x.old x.new (area_has slots _ v) fresh);
      unreleased = released_claim c start q a b n (completion_queue c q) (lba_of a) n x.pair x.old x.new
          ∙ fresh_unreleased c slots start (completion_queue c q) (lba_of a) n d v fresh;
    }

-- the same in a shared history, by pass p: others, who keep the discipline, have added `later` since what it saw, and
-- none of its queues
pub claiming_shared : (c : ConfigNumbers) (slots : Range) (q p m last : ℕ) (later seen : SharedPast) (a b : Submission)
    (n : Name) → disciplined c slots (entries seen) ≡ true
    → others_keep c slots p ((p, pair_on q a b) ∷ (later ++ seen)) ≡ true
    → places p ((p, pair_on q a b) ∷ (later ++ seen)) ≡ m ∷ places p seen
    → IsSole c (completion_queue c q) p ((p, pair_on q a b) ∷ (later ++ seen))
    → claims_only_on c slots (entries (later ++ seen)) n.host (completion_queue c q) ≡ true
    → has_block slots (lba_of a) ≡ true → all_drawn slots (entries seen) n.host last ≡ true → last < n.serial
    → IsClaim a b n → Claiming c slots q (entries (later ++ seen)) a b n
claiming_shared c slots q p m last later seen a b n d o e s u v h l x =
    let kept = disciplined_behind c slots p m (pair_on q a b) later seen o e d in
    let beside = own_beside c (completion_queue c q) p m (pair_on q a b) later seen s e in
    let split = entries_append later seen in
    let drawn : all_drawn slots (entries (later ++ seen)) n.host last ≡ true =
    ap (λ (z : Past). all_drawn slots z n.host last) split
    ∙ drawn_later c slots (entries later) (entries seen) n.host last (completion_queue c q) beside
    (subst (λ (z : Past). claims_only_on c slots z n.host (completion_queue c q) ≡ true) split u) h in
    claiming c slots q last (entries (later ++ seen)) a b n kept v drawn l x

-- once its success is reaped it is held
pub record Held (c : ConfigNumbers) (past : Past) (k : Swap) : Type 0 where
  pub won : IsWon c past k
  pub believed : believed c past k.lba k.name ≡ true
  pub holder : holder past k.lba ≡ Some k.name

pub held : (c : ConfigNumbers) (slots : Range) (q : ℕ) (later start : Past) (a b : Submission) (n : Name) (p : PostLine)
    → IsLegal c (later ++ (pair_on q a b ∷ start)) → disciplined c slots (later ++ (pair_on q a b ∷ start)) ≡ true
    → has_block slots (lba_of a) ≡ true → IsClaim a b n
    → reaped_post c (later ++ (pair_on q a b ∷ start)) q (suc (length (published_entries start q))) ≡ Some p
    → is_success (cqe_status p.cqe) ≡ true
    → is_released_on c (later ++ (pair_on q a b ∷ start)) (completion_queue c q) (lba_of a) n ≡ false
    → Held c (later ++ (pair_on q a b ∷ start)) (claim_of start q a n)
held c slots q later start a b n p h d v x r y u =
    let k = claim_of start q a n in
    let seen : Past = later ++ (pair_on q a b ∷ start) in
    let won : IsWon c seen k =
    record {
      claims = refl;
      published = in_contains (swaps seen) k
          (swaps_later later (pair_on q a b ∷ start) k
          (contains_in _ k (claim_published start q a b n x.pair x.old x.new)));
      reaped = reaped_is_success c seen q (suc (length (published_entries start q))) p h r y;
    } in
    let believes = won_believed c slots seen k d v won u in
    record {
      won = won;
      believed = believes;
      holder = believed_holds c slots seen k.lba n h d (area_has slots _ v) believes;
    }

-- its release, on any submission queue of the same completion queue, keeps the discipline
pub releasing : (c : ConfigNumbers) (slots : Range) (q : ℕ) (past : Past) (a b : Submission) (k : Swap)
    → disciplined c slots past ≡ true → has_block slots k.lba ≡ true → Held c past k
    → is_released_on c past (completion_queue c k.queue) k.lba k.name ≡ false
    → completion_queue c q ≡ completion_queue c k.queue → IsRelease a b k.name → lba_of a ≡ k.lba
    → disciplined c slots (pair_on q a b ∷ past) ≡ true
releasing c slots q past a b k d v x u e y l =
    and_from (disciplined c slots past) (keeps_discipline c slots past (pair_line q a b)) d
    (won_releases c slots past q a b k d v x.won u e y.pair l y.old y.new)

-- and is answered by success
pub released : (c : ConfigNumbers) (slots : Range) (q : ℕ) (later past : Past) (a b : Submission) (n : Name)
    (p : PostLine) → IsLegal c (later ++ (pair_on q a b ∷ past))
    → disciplined c slots (later ++ (pair_on q a b ∷ past)) ≡ true
    → has_block slots (lba_of a) ≡ true → IsRelease a b n → IsAlwaysApart c (later ++ (pair_on q a b ∷ past)) q
    → IsProperPair (later ++ (pair_on q a b ∷ past)) q (length (published_entries past q))
    → reaped_post c (later ++ (pair_on q a b ∷ past)) q (suc (length (published_entries past q))) ≡ Some p
    → is_success (cqe_status p.cqe) ≡ true
released c slots q later past a b n p h d v x s y r =
    let w = release_of past q a n in
    release_succeeds c slots (later ++ (pair_on q a b ∷ past)) w y.first y.second p h d
    (swaps_later later (pair_on q a b ∷ past) w
    (contains_in _ w (release_published past q a b n x.pair x.old x.new))) refl
    (area_has slots _ v) s y.first_published y.second_published y.first_proper y.second_proper (inr r)
