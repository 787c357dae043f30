-- What is kept of takeovers, one entry later.
use Rattle.std.proofs.Common.{◌≡◌, ℕ, Bool, true, false, not, ◌&&◌, cond, List, [], ◌∷◌, ◌++◌, length, refl, sym}
use Rattle.std.proofs.Common.{ap, ap₂, ◌∙◌, Some, Option, inl, inr, eqb, eqb-true, arith, subst}
use Rattle.std.specs.List.{find, list_all, list_any}
use Rattle.std.specs.Option.{option_map}
use Rattle.std.proofs.lemmas.Bool.{and_parts}
use Rattle.std.proofs.lemmas.List.Elements.{filter-append}
use Rattle.plain_lemmas.proofs.Bools.{same_tests}
use Rattle.nvme_model.specs.Array.{has_block}
use Rattle.nvme_model.specs.Config.{completion_queue}
use Rattle.nvme_model.specs.History.{Past}
use Rattle.nvme_model.specs.Legal.{IsLegal}
use Rattle.nvme_model.specs.Placed.{effect}
use Rattle.nvme_model.specs.Queues.{published_entries}
use Rattle.nvme_model.specs.Slots.{Name, Swap, in_area, reaped_success, same_name}
use Rattle.nvme_model.specs.declared.array.Range.{Range}
use Rattle.nvme_model.specs.declared.config.ConfigNumbers.{ConfigNumbers}
use Rattle.nvme_model.specs.declared.entry.Entry.{Entry}
use Rattle.nvme_model.specs.declared.entry.GrantLine.{GrantLine}
use Rattle.nvme_model.specs.declared.entry.PublishLine.{PublishLine}
use Rattle.host_laws.proofs.Discipline.{area_has}
use Rattle.host_laws.proofs.Elements.{In, any_in, in_any, in_cases, in_filter}
use Rattle.host_laws.proofs.Names.{name_eq}
use Rattle.host_laws.specs.Rules.{takeover_disciplined, takeovers_within, takes_right}
use Rattle.host_laws.specs.Takeovers.{Takeover, is_given_on, moves, takeovers, takeovers_in}
use Rattle.host_laws.proofs.TakeoverDiscipline.{kept, kept_before}
use Rattle.host_laws.proofs.Entries.{moves_later}
use Rattle.host_laws.proofs.Fencing.{given_later}
use Rattle.host_laws.proofs.Givers.{one_giver}
use Rattle.slot_check.specs.Broken.{cuts_off}
use Rattle.slot_check.specs.Names.{KeptNames, KnowsNames}
use Rattle.slot_check.specs.Takeovers.{KeptTakeovers, KnowsTakeovers, begins_at, begun_by, cut_by}
use Rattle.slot_check.specs.Watched.{IsSlotCheckState, SlotCheckState}
use Rattle.slot_check.proofs.Judging.{given_is}
use Rattle.slot_check.proofs.Standing.{untaken_on, untaken_published}

-- ---- the dead name of a takeover was given its slot before

all_in : (test : Takeover → Bool) (ws : List Takeover) (w : Takeover) → list_all test ws ≡ true → In w ws
    → test w ≡ true
all_in test [] w h i = absurd i
all_in test (x ∷ ws) w h (inl e) = ap test e ∙ (and_parts (test x) (list_all test ws) h).0
all_in test (x ∷ ws) w h (inr i) = all_in test ws w (and_parts (test x) (list_all test ws) h).1 i

-- a claim or a takeover that gave this slot to this name
record Giver (past : Past) (l : ℕ) (n : Name) : Type 0 where
  move : Swap
  there : In move (moves past)
  claims : move.claims ≡ true
  lba : move.lba ≡ l
  name : move.name ≡ n

giver_by : (past : Past) (w : Takeover) (c : ConfigNumbers) → takes_right c past w ≡ true → Giver past w.lba w.dead
giver_by past w c h =
    let x = any_in (λ s. s.claims && eqb s.lba w.lba && same_name s.name w.dead
    && not (eqb (completion_queue c s.queue) (completion_queue c w.queue))) (moves past) h in
    let a = and_parts _ _ x.2 in
    let b = and_parts _ _ a.0 in
    let d = and_parts _ _ b.0 in
    record {
      move = x.0;
      there = x.1;
      claims = d.0;
      lba = eqb-true x.0.lba w.lba d.1;
      name = name_eq x.0.name w.dead b.1;
    }

giver_later : (e : Entry) (past : Past) (l : ℕ) (n : Name) → Giver past l n → Giver (e ∷ past) l n
giver_later e past l n g =
    record {
      move = g.move;
      there = moves_later (e ∷ []) past g.move g.there;
      claims = g.claims;
      lba = g.lba;
      name = g.name;
    }

-- before the Publish of a takeover, or, of one that was published earlier, before that
giver_before : (c : ConfigNumbers) (slots : Range) (past : Past) (p : PublishLine) (w : Takeover)
    → takeover_disciplined c slots (Entry.Publish p ∷ past) ≡ true
    → In w (takeovers (Entry.Publish p ∷ past)) → has_block slots w.lba ≡ true
    → (In w (takeovers past) → Giver past w.lba w.dead) → Giver past w.lba w.dead
giver_before c slots past p w d i v old =
    let k = kept c slots past p d in
    let new = takeovers_in p.queue (length (published_entries past p.queue)) p.batch in
    elim (in_cases w new (takeovers past) i) [
      | inl x ↦ giver_by past w c (all_in (takes_right c past) (takeovers_within slots new) w k.takes
          (in_filter (λ y. has_block slots y.lba) new w x v))
      | inr x ↦ old x
    ]

dead_before : (c : ConfigNumbers) (slots : Range) (past : Past) (w : Takeover)
    → takeover_disciplined c slots past ≡ true → In w (takeovers past) → has_block slots w.lba ≡ true
    → Giver past w.lba w.dead
dead_before c slots [] w d i v = absurd i
dead_before c slots (Entry.Publish p ∷ past) w d i v =
    giver_later (Entry.Publish p) past w.lba w.dead
    (giver_before c slots past p w d i v
    (λ x. dead_before c slots past w (kept_before c slots (Entry.Publish p) past d) x v))
dead_before c slots (Entry.Fetch p ∷ past) w d i v =
    giver_later (Entry.Fetch p) past w.lba w.dead (dead_before c slots past w d i v)
dead_before c slots (Entry.Grant p ∷ past) w d i v =
    giver_later (Entry.Grant p) past w.lba w.dead (dead_before c slots past w d i v)
dead_before c slots (Entry.Block p ∷ past) w d i v =
    giver_later (Entry.Block p) past w.lba w.dead (dead_before c slots past w d i v)
dead_before c slots (Entry.Post p ∷ past) w d i v =
    giver_later (Entry.Post p) past w.lba w.dead (dead_before c slots past w d i v)
dead_before c slots (Entry.Reap p ∷ past) w d i v =
    giver_later (Entry.Reap p) past w.lba w.dead (dead_before c slots past w d i v)

dead_given : (c : ConfigNumbers) (slots : Range) (past : Past) (p : PublishLine) (w : Takeover)
    → takeover_disciplined c slots (Entry.Publish p ∷ past) ≡ true
    → In w (takeovers (Entry.Publish p ∷ past)) → has_block slots w.lba ≡ true → Giver past w.lba w.dead
dead_given c slots past p w d i v =
    giver_before c slots past p w d i v
    (λ x. dead_before c slots past w (kept_before c slots (Entry.Publish p) past d) x v)

-- ---- who is cut off

-- behind a Publish a takeover cuts off whom it did
cuts_same : (c : ConfigNumbers) (slots : Range) (past : Past) (p : PublishLine) (q : ℕ) (w : Takeover)
    → takeover_disciplined c slots (Entry.Publish p ∷ past) ≡ true → In w (takeovers (Entry.Publish p ∷ past))
    → cuts_off c slots (Entry.Publish p ∷ past) q w ≡ cuts_off c slots past q w
cuts_same c slots past p q w d i = go (has_block slots w.lba) refl
  where
    forth : has_block slots w.lba ≡ true → is_given_on c (Entry.Publish p ∷ past) q w.lba w.dead ≡ true
        → is_given_on c past q w.lba w.dead ≡ true
    forth v h =
        let g = dead_given c slots past p w d i v in
        let x = any_in (λ s. s.claims && eqb s.lba w.lba && same_name s.name w.dead
        && eqb (completion_queue c s.queue) q) (moves (Entry.Publish p ∷ past)) h in
        let a = and_parts _ _ x.2 in
        let b = and_parts _ _ a.0 in
        let e = and_parts _ _ b.0 in
        let at : x.0.lba ≡ w.lba = eqb-true x.0.lba w.lba e.1 in
        let area = area_has slots w.lba v in
        let same : g.move ≡ x.0 =
        one_giver c slots (Entry.Publish p ∷ past) g.move x.0 d
        (moves_later (Entry.Publish p ∷ []) past g.move g.there) x.1 g.claims e.0
        (g.name ∙ sym (name_eq x.0.name w.dead b.1))
        (record { from = omega (arith, g.lba, area.from); to = omega (arith, g.lba, area.to) })
        (record { from = omega (arith, at, area.from); to = omega (arith, at, area.to) }) in
        in_any (λ s. s.claims && eqb s.lba w.lba && same_name s.name w.dead
        && eqb (completion_queue c s.queue) q) (moves past) g.move g.there
        (ap (λ (s : Swap). s.claims && eqb s.lba w.lba && same_name s.name w.dead
        && eqb (completion_queue c s.queue) q) same ∙ x.2)

    go : (b : Bool) → has_block slots w.lba ≡ b
        → (b && is_given_on c (Entry.Publish p ∷ past) q w.lba w.dead) ≡ (b && is_given_on c past q w.lba w.dead)
    go false e = refl
    go true e =
        same_tests _ _ (forth e) (given_later c (Entry.Publish p ∷ []) past q w.lba w.dead)

find_same : (test other : Takeover → Bool) (ws : List Takeover)
    → ((w : Takeover) → In w ws → test w ≡ other w) → find test ws ≡ find other ws
find_same test other [] h = refl
find_same test other (w ∷ ws) h =
    ap₂ (λ (b : Bool) (o : Option Takeover). cond b (Some w) o) (h w (inl refl))
    (find_same test other ws (λ x i. h x (inr i)))

abbrev cut_lba : Option Takeover → Option ℕ
cut_lba o = option_map (λ (w : Takeover). w.lba) o

-- the takeovers of a batch, and those before it
cut_is : (c : ConfigNumbers) (slots : Range) (past : Past) (names : KeptNames) (cut : ℕ → Option ℕ) (q : ℕ)
    (new old : List Takeover) → KnowsNames (reaped_success c past) (in_area slots (moves past)) names
    → cut q ≡ cut_lba (find (cuts_off c slots past q) old)
    → cut_by c names (takeovers_within slots new) cut q ≡ cut_lba (find (cuts_off c slots past q) (new ++ old))
cut_is c slots past names cut q [] old k h = h
cut_is c slots past names cut q (w ∷ new) old k h =
    go (has_block slots w.lba) refl (cut_is c slots past names cut q new old k h)
  where
    pick : (b : Bool) (o : Option ℕ) (u : Option Takeover) → o ≡ cut_lba u
        → cond b (Some w.lba) o ≡ cut_lba (cond b (Some w) u)
    pick true o u e = refl
    pick false o u e = e

    go : (b : Bool) → has_block slots w.lba ≡ b
        → cut_by c names (takeovers_within slots new) cut q ≡ cut_lba (find (cuts_off c slots past q) (new ++ old))
        → cut_by c names (cond b (w ∷ takeovers_within slots new) (takeovers_within slots new)) cut q
        ≡ cut_lba (cond (b && is_given_on c past q w.lba w.dead) (Some w)
        (find (cuts_off c slots past q) (new ++ old)))
    go false e ih = ih
    go true e ih =
        ap (λ (x : Bool). cond x (Some w.lba) (cut_by c names (takeovers_within slots new) cut q))
        (given_is c slots past names k w.lba w.dead (λ s. eqb (completion_queue c s.queue) q) e)
        ∙ pick (is_given_on c past q w.lba w.dead) _ _ ih

-- ---- which takeovers begin where

begun_is : (q j : ℕ) (new old : List Takeover) (begun : ℕ → ℕ → Option Takeover)
    → begun q j ≡ find (begins_at q j) old → begun_by new begun q j ≡ find (begins_at q j) (new ++ old)
begun_is q j [] old begun h = h
begun_is q j (w ∷ new) old begun h =
    ap (λ (o : Option Takeover). cond (begins_at q j w) (Some w) o) (begun_is q j new old begun h)

-- ---- a Publish that keeps the discipline

pub publish_knows : (c : ConfigNumbers) (slots : Range) (past : Past) (p : PublishLine) (k m : KeptTakeovers)
    (names : KeptNames) → IsLegal c (Entry.Publish p ∷ past)
    → takeover_disciplined c slots (Entry.Publish p ∷ past) ≡ true → KnowsTakeovers c slots past k
    → KnowsNames (reaped_success c past) (in_area slots (moves past)) names
    → ((q j : ℕ) → m.begun q j ≡ begun_by (takeovers_within slots
    (takeovers_in p.queue (length (published_entries past p.queue)) p.batch)) k.begun q j)
    → ((l : ℕ) (n : Name) → m.taken l n ≡ k.taken l n)
    → ((q : ℕ) → m.cut q ≡ cut_by c names (takeovers_within slots
    (takeovers_in p.queue (length (published_entries past p.queue)) p.batch)) k.cut q)
    → KnowsTakeovers c slots (Entry.Publish p ∷ past) m
publish_knows c slots past p k m names legal d h x begun taken cut =
    let new = takeovers_in p.queue (length (published_entries past p.queue)) p.batch in
    record {
      begun = λ q j. begun q j
          ∙ begun_is q j (takeovers_within slots new) (takeovers_within slots (takeovers past)) k.begun (h.begun q j)
          ∙ ap (find (begins_at q j)) (sym (filter-append (λ w. has_block slots w.lba) new (takeovers past)));
      taken = λ l n v. taken l n ∙ h.taken l n v ∙ sym (untaken_published c past p l n legal);
      cut = λ q. cut q ∙ cut_is c slots past names k.cut q new (takeovers past) x (h.cut q)
          ∙ ap cut_lba (sym (find_same (cuts_off c slots (Entry.Publish p ∷ past) q) (cuts_off c slots past q)
          (new ++ takeovers past) (λ w i. cuts_same c slots past p q w d i)));
    }

-- ---- an entry that publishes nothing, and is no effect

pub still_known : (c : ConfigNumbers) (slots : Range) (e : Entry) (past : Past) (k : KeptTakeovers)
    → IsLegal c (e ∷ past) → ((t : ℕ) → effect (e ∷ past) t 0 ≡ effect past t 0)
    → takeovers (e ∷ past) ≡ takeovers past → moves (e ∷ past) ≡ moves past → KnowsTakeovers c slots past k
    → KnowsTakeovers c slots (e ∷ past) k
still_known c slots e past k h same ws ms x =
    record {
      begun = λ q j. x.begun q j
          ∙ ap (λ (xs : List Takeover). find (begins_at q j) (takeovers_within slots xs)) (sym ws);
      taken = λ l n v. x.taken l n v
          ∙ sym (untaken_on c e past l n h same (λ w i took. subst (λ (xs : List Takeover). In w xs) ws i));
      cut = λ q. x.cut q
          ∙ (λ i. cut_lba (find (λ w. has_block slots w.lba && list_any (λ s. s.claims && eqb s.lba w.lba
          && same_name s.name w.dead && eqb (completion_queue c s.queue) q) (sym ms i)) (sym ws i)));
    }

-- ---- a Grant

pub grant_keeps : (c : ConfigNumbers) (slots : Range) (past : Past) (g : GrantLine) (k : SlotCheckState)
    → IsSlotCheckState c slots past k → IsLegal c (Entry.Grant g ∷ past)
    → IsSlotCheckState c slots (Entry.Grant g ∷ past) k
grant_keeps c slots past g k h legal =
    record {
      legal = legal;
      disciplined = h.disciplined;
      progress = record {
        published = h.progress.published;
        fetched = h.progress.fetched;
        posted = h.progress.posted;
        reaped = h.progress.reaped;
        flying = h.progress.flying;
        waiting = h.progress.waiting;
      };
      names = record { claim = h.names.claim; won = h.names.won; released = h.names.released };
      takeovers = still_known c slots (Entry.Grant g) past k.takeovers legal (λ t. refl) refl refl h.takeovers;
    }
