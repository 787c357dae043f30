-- The first rule that an entry breaks, by what is kept.
use Rattle.std.proofs.Common.{◌≡◌, ℕ, suc, ◌-◌, ◌%◌, ◌≤◌, ◌<◌, ◌==◌, ◌||◌, Bool, true, false, not, cond, List, [], ◌∷◌}
use Rattle.std.proofs.Common.{get_or, length, map, slice_get, Option, Some, None, is_some, option_map, refl, sym, ap}
use Rattle.std.proofs.Common.{ap₂, ◌∙◌, subst, arith, eq-eqb, ne_eqb, nat_le, le-leb}
use Rattle.std.specs.List.{find}
use Rattle.std.specs.Prelude.{Err, IfOk, IfSome, Ok, Result, is_none}
use Rattle.std.proofs.lemmas.Bool.{lt-leb}
use Rattle.broken_rules.specs.Broken.{first_broken, refused_or}
use Rattle.broken_rules.specs.Rows.{block_broken, fetch_broken, grant_broken, reap_broken}
use Rattle.broken_rules.specs.declared.broken.Broken.{Broken}
use Rattle.broken_rules.proofs.Exactly.{exactly}
use Rattle.history_check.specs.Contents.{contents_in}
use Rattle.history_check.specs.Explained.{block_wrong_by, due_in, post_wrong_at}
use Rattle.history_check.specs.Judged.{conflicts_by, flies, next_by, checked_owed, owes_nothing}
use Rattle.rings.specs.Used.{UsedCids}
use Rattle.history_check.specs.Tables.{CheckedTicket, flight, tables, checked_unit_of}
use Rattle.history_check.proofs.Within.{right_same}
use Rattle.nvme_model.specs.Bits.{bit}
use Rattle.fused_match.specs.Judged as matched
use Rattle.fused_match.specs.Judged.{NamesBlocks, operation_in, waiting_items}
use Rattle.fused_match.specs.declared.judged.Judged.{Judged}
use Rattle.nvme_model.specs.Config.{completion_queue}
use Rattle.nvme_model.specs.EntryBytes.{sqe_fields}
use Rattle.nvme_model.specs.History.{Past}
use Rattle.nvme_model.specs.Legal.{legal}
use Rattle.nvme_model.specs.Open.{open_units}
use Rattle.nvme_model.specs.Operations.{mode, op_by, units}
use Rattle.nvme_model.specs.Tickets.{ticket}
use Rattle.nvme_model.specs.Value.{value}
use Rattle.nvme_model.specs.Verdict.{Item, item_of, verdict_of}
use Rattle.nvme_model.specs.declared.array.Range.{Range}
use Rattle.nvme_model.specs.declared.config.ConfigNumbers.{ConfigNumbers}
use Rattle.nvme_model.specs.declared.entry.BlockLine.{BlockLine}
use Rattle.nvme_model.specs.declared.entry.Entry.{Entry}
use Rattle.nvme_model.specs.declared.entry.FetchLine.{FetchLine}
use Rattle.nvme_model.specs.declared.entry.GrantLine.{GrantLine}
use Rattle.nvme_model.specs.declared.entry.PostLine.{PostLine}
use Rattle.nvme_model.specs.declared.entry.ReapLine.{ReapLine}
use Rattle.nvme_model.specs.declared.refusal.Why.{Why}
use Rattle.nvme_model.specs.declared.status.Verdict.{Verdict as Said}
use Rattle.nvme_model.specs.declared.submission.Submission.{Submission}
use Rattle.nvme_model.proofs.NextPost.{unit_at}
use Rattle.rings.specs.Completions.{CompletionRing, is_full}
use Rattle.rings.specs.Submissions.{SubmissionRing}
use Rattle.rings.specs.declared.completion_ring.Completion.{Completion}
use Rattle.ticket_laws.specs.Standing.{flying}
use Rattle.history_check.specs.Kept.{IsCheckerState, CheckerState}
use Rattle.history_check.specs.Rings.{bare}
use Rattle.history_check.specs.Whys.{broken_by, grant_why, wrong_by}
use Rattle.history_check.specs.declared.fields.CheckedInFlight.{CheckedInFlight}
use Rattle.history_check.proofs.Blocking.{open_granted, same_in}
use Rattle.history_check.proofs.Bounds.{has_op, unit_range_is}
use Rattle.history_check.proofs.Fetching
use Rattle.history_check.proofs.Flights.{IsThere}
use Rattle.history_check.proofs.Granting.{conflicts_is, none_at, some_at}
use Rattle.history_check.proofs.Posting
use Rattle.history_check.proofs.Reaping
use Rattle.history_check.proofs.Rings.{IsPlace, there}

-- of a ticket that isn't in flight
none_flies : (b : Bool) (o : Option Why) (w : Option Broken) → b ≡ false
    → Some (Broken.Refused Why.NoTicket) ≡ refused_or (cond (not b) (Some Why.NoTicket) o) w
none_flies true o w e = absurd cc
none_flies false o w e = refl

-- ---- a Fetch

abbrev fetch_form : Bool → Bool → Bool → Option Broken → Option Broken
fetch_form gone none full w =
    refused_or (cond gone (Some Why.NoQueue) (cond none (Some Why.NoEntry) (cond full (Some Why.JobsFull) None))) w

module _ (c : ConfigNumbers) (past : Past) (k : CheckerState) (keeps : IsCheckerState c past k) (l : FetchLine) (i : ℕ)
    (place : IsPlace c.pairs l.queue i) (r : SubmissionRing) (is : r ≡ get_or k.submission i r) where
  form_is : broken_by c (tables c past) (Entry.Fetch l)
      ≡ fetch_form false (length ((tables c past).waiting l.queue) == 0) (nat_le c.jobs (length (flying past)))
      (wrong_by c (tables c past) (Entry.Fetch l))
  form_is = ap (λ b. fetch_form b (length ((tables c past).waiting l.queue) == 0) (nat_le c.jobs (length (flying past)))
      (wrong_by c (tables c past) (Entry.Fetch l))) (there c.pairs l.queue i place)

  waits_is : (o : Option Submission) → slice_get r.waiting 0 ≡ o → slice_get ((tables c past).waiting l.queue) 0 ≡ o
  waits_is o e = ap (λ (xs : List Submission). slice_get xs 0) (sym (Fetching.waiting_is c past k keeps l i place r is))
      ∙ e

  pub tell_empty : slice_get r.waiting 0 ≡ None
      → Some (Broken.Refused Why.NoEntry) ≡ broken_by c (tables c past) (Entry.Fetch l)
  tell_empty e =
      let none = eq-eqb (length ((tables c past).waiting l.queue)) 0
      (Fetching.front_none ((tables c past).waiting l.queue) (waits_is None e)) in
      sym (form_is ∙ ap (λ b. fetch_form false b (nat_le c.jobs (length (flying past)))
      (wrong_by c (tables c past) (Entry.Fetch l))) none)

  module _ (first : Submission) (waits : slice_get r.waiting 0 ≡ Some first) where
    some_waits : (length ((tables c past).waiting l.queue) == 0) ≡ false
    some_waits = ne_eqb (length ((tables c past).waiting l.queue)) 0
        (λ z. omega (
          arith,
          z,
          Fetching.front_some ((tables c past).waiting l.queue) first
              (waits_is (Some first) waits),
        ))

    pub tell_full : c.jobs ≤ length k.flights
        → Some (Broken.Refused Why.JobsFull) ≡ broken_by c (tables c past) (Entry.Fetch l)
    tell_full e =
        let full : nat_le c.jobs (length (flying past)) ≡ true =
        le-leb c.jobs (length (flying past)) (omega (arith, e, Fetching.count_is c past k keeps l i place r is)) in
        sym (form_is ∙ ap₂ (λ a b. fetch_form false a b (wrong_by c (tables c past) (Entry.Fetch l))) some_waits full)

    module _ (next : Option Item) (behind : next ≡ option_map item_of (slice_get r.waiting 1))
        (room : length k.flights < c.jobs) (j : Judged)
        (u : UsedCids) (used : u ≡ get_or k.in_use i u) (ones : List ℕ) (ones_are : ones ≡ u.cids)
        (verdict : matched.verdict_by j ≡ verdict_of c.atomic c.blocks ones (waiting_items (item_of first) next))
        (operation : operation_in j ≡ op_by (matched.verdict_by j) (sqe_fields first.entry))
        (names : NamesBlocks j (sqe_fields first.entry)) where
      pub tell_fetch : fetch_broken l k.tickets (matched.verdict_by j) ≡ broken_by c (tables c past) (Entry.Fetch l)
      tell_fetch =
          let free : nat_le c.jobs (length (flying past)) ≡ false =
          lt-leb c.jobs (length (flying past))
          (omega (arith, room, Fetching.count_is c past k keeps l i place r is)) in
          ap₂ (λ (n : ℕ) (v : Said). fetch_broken l n v) keeps.shows.count
          (Fetching.verdict_is c past k keeps l i place r is first waits next behind room j u used ones ones_are
          verdict operation names)
          ∙ sym (form_is ∙ ap₂ (λ a b. fetch_form false a b (wrong_by c (tables c past) (Entry.Fetch l))) some_waits
          free)

-- ---- a Grant

abbrev grant_form : Bool → Bool → Bool → Option Broken → Option Broken
grant_form flies state conflicts w =
    refused_or (cond (not flies) (Some Why.NoTicket)
    (cond state (Some Why.WrongState) (cond conflicts (Some Why.Conflict) None))) w

module _ (c : ConfigNumbers) (past : Past) (k : CheckerState) (keeps : IsCheckerState c past k) (g : GrantLine) where
  pub tell_no_grant : flies ((tables c past).flight g.ticket) ≡ false
      → Some (Broken.Refused Why.NoTicket) ≡ broken_by c (tables c past) (Entry.Grant g)
  tell_no_grant e = none_flies (flies ((tables c past).flight g.ticket)) _ _ e

  granted_by : (f : CheckedTicket) (o : Option Range) → slice_get (units c f.ticket) f.opened ≡ o
      → grant_why f o k.held g
      ≡ grant_form true ((nat_le (length (units c f.ticket)) f.opened || f.differs) || is_some f.unit)
      (conflicts_by (tables c past) (mode f.ticket) o) (grant_broken g f.opened o (mode f.ticket))
  granted_by f None e = ap
      (λ b. grant_form true ((b || f.differs) || is_some f.unit) false (grant_broken g f.opened None (mode f.ticket)))
      (sym (none_at (units c f.ticket) f.opened e))
  granted_by f (Some r) e =
      ap (λ b. cond (f.differs || is_some f.unit) (Some (Broken.Refused Why.WrongState))
      (cond b (Some (Broken.Refused Why.Conflict)) (grant_broken g f.opened (Some r) (mode f.ticket))))
      (conflicts_is (tables c past) k.held r (mode f.ticket) keeps.shows.ranges)
      ∙ by (f.differs || is_some f.unit) (conflicts_by (tables c past) (mode f.ticket) (Some r))
      ∙ ap (λ b. grant_form true b (conflicts_by (tables c past) (mode f.ticket) (Some r))
      (grant_broken g f.opened (Some r) (mode f.ticket)))
      (or_turned f.differs (is_some f.unit)
      ∙ ap (λ b. (b || f.differs) || is_some f.unit) (sym (some_at (units c f.ticket) f.opened r e)))
    where
      by : (d n : Bool) → cond d (Some (Broken.Refused Why.WrongState))
          (cond n (Some (Broken.Refused Why.Conflict)) (grant_broken g f.opened (Some r) (mode f.ticket)))
          ≡ grant_form true d n (grant_broken g f.opened (Some r) (mode f.ticket))
      by true n = refl
      by false true = refl
      by false false = refl

      or_turned : (d u : Bool) → (d || u) ≡ ((false || d) || u)
      or_turned true u = refl
      or_turned false u = refl

  pub tell_grant : (i : ℕ) (x : CheckedInFlight) → IsThere c past g.ticket i x
      → grant_why x.flight (slice_get x.units x.flight.opened) k.held g ≡ broken_by c (tables c past) (Entry.Grant g)
  tell_grant i x there =
      ap (λ (y : CheckedInFlight). grant_why y.flight (slice_get y.units y.flight.opened) k.held g) there.is
      ∙ granted_by (flight past g.ticket)
      (slice_get (units c (flight past g.ticket).ticket) (flight past g.ticket).opened) refl
      ∙ ap (λ b. grant_form b ((nat_le (length (units c (flight past g.ticket).ticket)) (flight past g.ticket).opened
      || (flight past g.ticket).differs) || is_some (flight past g.ticket).unit)
      (conflicts_by (tables c past) (mode (flight past g.ticket).ticket) (next_by c (flight past g.ticket)))
      (wrong_by c (tables c past) (Entry.Grant g))) (sym there.flies)

-- ---- a Block

abbrev block_form : Bool → Bool → Option Broken → Option Broken
block_form flies is_open w =
    refused_or (cond (not flies) (Some Why.NoTicket) (cond (not is_open) (Some Why.WrongState) None)) w

module _ (c : ConfigNumbers) (past : Past) (k : CheckerState) (keeps : IsCheckerState c past k) (b : BlockLine) where
  pub tell_no_block : flies ((tables c past).flight b.ticket) ≡ false
      → Some (Broken.Refused Why.NoTicket) ≡ broken_by c (tables c past) (Entry.Block b)
  tell_no_block e = none_flies (flies ((tables c past).flight b.ticket)) _ _ e

  -- an open unit has a block
  open_some : (g : GrantLine) → find (λ x. x.ticket == b.ticket) (open_units past) ≡ Some g → 1 ≤ g.range.blocks
  open_some g e =
      let at = open_granted (λ y. slice_get (units c (ticket past y.ticket)) y.unit ≡ Some y.range) past b.ticket g
      (unit_at c past keeps.legal_so_far) e in
      (unit_range_is c past g.ticket keeps.legal_so_far keeps.accepted (has_op c past g.ticket g.unit g.range at) g.unit
      g.range at).0

  module _ (i : ℕ) (x : CheckedInFlight) (there : IsThere c past b.ticket i x) where
    flight_is : x.flight ≡ flight past b.ticket
    flight_is = ap (λ (y : CheckedInFlight). y.flight) there.is

    pub tell_some : IfSome x.flight.unit (λ u. 1 ≤ u.line.range.blocks)
    tell_some = subst (λ (f : CheckedTicket). IfSome f.unit (λ u. 1 ≤ u.line.range.blocks)) (sym flight_is)
        (go (find (λ g. g.ticket == b.ticket) (open_units past)) refl)
      where
        go : (o : Option GrantLine) → find (λ g. g.ticket == b.ticket) (open_units past) ≡ o
            → IfSome (option_map (checked_unit_of past) o) (λ u. 1 ≤ u.line.range.blocks)
        go None e = tt
        go (Some g) e = open_some g e

    pub tell_block : block_wrong_by (contents_in k.volume) x.flight b x.flight.unit
        ≡ broken_by c (tables c past) (Entry.Block b)
    tell_block =
        ap (λ (f : CheckedTicket). block_wrong_by (contents_in k.volume) f b f.unit) flight_is
        ∙ go (find (λ g. g.ticket == b.ticket) (open_units past)) refl
        ∙ ap (λ q. block_form q (is_some (flight past b.ticket).unit) (wrong_by c (tables c past) (Entry.Block b)))
        (sym there.flies)
      where
        go : (o : Option GrantLine) → find (λ g. g.ticket == b.ticket) (open_units past) ≡ o
            → block_wrong_by (contents_in k.volume) (flight past b.ticket) b (option_map (checked_unit_of past) o)
            ≡ block_form true (is_some (option_map (checked_unit_of past) o))
            (block_wrong_by (value past) (flight past b.ticket) b (option_map (checked_unit_of past) o))
        go None e = refl
        go (Some g) e = ap (λ o.
            block_broken b (due_in (flight past b.ticket).ticket (flight past b.ticket).placed
            (checked_unit_of past g) o b))
            (right_same (contents_in k.volume) (value past) (checked_unit_of past g) (same_in c past k keeps b g e)
            (flight past b.ticket) b)

-- ---- a Post

abbrev post_form : Bool → Bool → Bool → Option Broken → Option Broken
post_form flies nothing full w =
    refused_or (cond (not flies) (Some Why.NoTicket)
    (cond nothing (Some Why.WrongState) (cond full (Some Why.CqFull) None))) w

module _ (c : ConfigNumbers) (past : Past) (k : CheckerState) (keeps : IsCheckerState c past k) (p : PostLine) where
  pub tell_no_post : flies ((tables c past).flight p.ticket) ≡ false
      → Some (Broken.Refused Why.NoTicket) ≡ broken_by c (tables c past) (Entry.Post p)
  tell_no_post e = none_flies (flies ((tables c past).flight p.ticket)) _ _ e

  module _ (i : ℕ) (x : CheckedInFlight) (there : IsThere c past p.ticket i x) where
    posted_is : x.flight ≡ flight past p.ticket
    posted_is = ap (λ (y : CheckedInFlight). y.flight) there.is

    pub tell_nothing : owes_nothing c x.flight ≡ true
        → Some (Broken.Refused Why.WrongState) ≡ broken_by c (tables c past) (Entry.Post p)
    tell_nothing e = (λ z. post_form (sym there.flies z) ((sym e ∙ ap (owes_nothing c) posted_is) z)
        (length ((tables c past).unreaped (completion_queue c (flight past p.ticket).ticket.queue)) == c.cq_size - 1)
        (wrong_by c (tables c past) (Entry.Post p)))

    module _ (owes : owes_nothing c x.flight ≡ false) (cr : CompletionRing)
        (cr_is : cr ≡ get_or k.completion ((x.flight.ticket.queue - 1) % c.cqs) cr) (sr : SubmissionRing)
        (sr_is : sr ≡ get_or k.submission (x.flight.ticket.queue - 1) sr) where
      pub tell_cq_full : is_full cr ≡ true
          → Some (Broken.Refused Why.CqFull) ≡ broken_by c (tables c past) (Entry.Post p)
      tell_cq_full e = (λ z. post_form (sym there.flies z) ((sym owes ∙ ap (owes_nothing c) posted_is) z)
          ((sym e ∙ Posting.full_is c past k keeps p i x there sr cr sr_is cr_is) z)
          (wrong_by c (tables c past) (Entry.Post p)))

      pub tell_post : is_full cr ≡ false
          → post_wrong_at sr.head (bit cr.phase) x.flight p (slice_get (checked_owed c x.flight) x.flight.posts)
          ≡ broken_by c (tables c past) (Entry.Post p)
      tell_post e =
          (λ z. post_wrong_at (Posting.sq_is c past k keeps p i x there sr cr sr_is cr_is z).head
          (bit (Posting.cq_is c past k keeps p i x there sr cr sr_is cr_is z).phase) (posted_is z) p
          (slice_get (checked_owed c (posted_is z)) (posted_is z).posts))
          ∙ (λ z. post_form (sym there.flies z) ((sym owes ∙ ap (owes_nothing c) posted_is) z)
          ((sym e ∙ Posting.full_is c past k keeps p i x there sr cr sr_is cr_is) z)
          (wrong_by c (tables c past) (Entry.Post p)))

-- ---- a Reap

abbrev reap_form : Bool → List PostLine → ReapLine → Option Broken
reap_form gone xs l = refused_or (cond gone (Some Why.NoQueue) (cond (length xs == 0) (Some Why.NoCompletion) None))
    (reap_broken l (option_map (λ (p : PostLine). p.cqe) (slice_get xs 0)))

reap_none : (xs : List PostLine) (l : ReapLine) → slice_get (map bare xs) 0 ≡ None
    → reap_broken l None ≡ reap_form false xs l
reap_none [] l e = refl
reap_none (p ∷ xs) l e = absurd (let f : Some (bare p) ≡ None = e in cc)

reap_first : (xs : List PostLine) (l : ReapLine) (d : Completion) → slice_get (map bare xs) 0 ≡ Some d
    → reap_broken l (Some d.cqe) ≡ reap_form false xs l
reap_first [] l d e = absurd (let f : None ≡ Some d = e in cc)
reap_first (p ∷ xs) l d e =
    ap (λ (y : Completion). reap_broken l (Some y.cqe)) (sym (some_inj e))
    ∙ ap (λ b. refused_or (cond b (Some Why.NoCompletion) None) (reap_broken l (Some p.cqe)))
    (sym (ne_eqb (suc (length xs)) 0 (λ z. omega (arith, z))))
  where
    some_inj : Some (bare p) ≡ Some d → bare p ≡ d
    some_inj h = cc

module _ (c : ConfigNumbers) (past : Past) (k : CheckerState) (keeps : IsCheckerState c past k) (l : ReapLine) (i : ℕ)
    (place : IsPlace c.cqs l.queue i) (r : CompletionRing) (is : r ≡ get_or k.completion i r) where
  reaped_is : broken_by c (tables c past) (Entry.Reap l) ≡ reap_form false ((tables c past).unreaped l.queue) l
  reaped_is = ap (λ b. reap_form b ((tables c past).unreaped l.queue) l) (there c.cqs l.queue i place)

  oldest_is : (o : Option Completion) → slice_get r.waiting 0 ≡ o
      → slice_get (map bare ((tables c past).unreaped l.queue)) 0 ≡ o
  oldest_is o e = ap (λ (xs : List Completion). slice_get xs 0) (sym (Reaping.waiting_is c past k keeps l i place r is))
      ∙ e

  pub tell_no_completion : slice_get r.waiting 0 ≡ None
      → reap_broken l None ≡ broken_by c (tables c past) (Entry.Reap l)
  tell_no_completion e = reap_none ((tables c past).unreaped l.queue) l (oldest_is None e) ∙ sym reaped_is

  pub tell_reap : (d : Completion) → slice_get r.waiting 0 ≡ Some d
      → reap_broken l (Some d.cqe) ≡ broken_by c (tables c past) (Entry.Reap l)
  tell_reap d e = reap_first ((tables c past).unreaped l.queue) l d (oldest_is (Some d) e) ∙ sym reaped_is

-- ---- of a checker

-- None exactly where this is
pub none_by : {E : Type 0} (r : Result (Option Broken) E) (c : ConfigNumbers) (past : Past) (e : Entry)
    → IfOk r (λ b. b ≡ first_broken c past e) → IfOk r (λ b. is_none b ≡ legal c (e ∷ past))
none_by (Ok b) c past e h = ap is_none h ∙ exactly c past e
none_by (Err x) c past e h = tt
