-- What a Publish that keeps the discipline with takeovers has.
use Rattle.std.proofs.Common.{◌≡◌, ℕ, suc, ◌+◌, Bool, true, false, ◌||◌, cond, List, [], ◌∷◌, ◌++◌, length}
use Rattle.std.proofs.Common.{refl, sym, ap, ◌∙◌, Some, None, inl, inr, ◌⊎◌, eqb, eqb-true, slice_get}
use Rattle.std.specs.List.{list_all}
use Rattle.std.proofs.lemmas.Bool.{and_parts, not-true}
use Rattle.nvme_model.specs.Array.{has_block}
use Rattle.nvme_model.specs.Config.{completion_queue}
use Rattle.nvme_model.specs.History.{Past}
use Rattle.nvme_model.specs.Queues.{published_entries}
use Rattle.nvme_model.specs.Slots.{Swap, fresh_names, in_area, only_swaps, swaps, swaps_in, touches}
use Rattle.nvme_model.specs.declared.array.Range.{Range}
use Rattle.nvme_model.specs.declared.config.ConfigNumbers.{ConfigNumbers}
use Rattle.nvme_model.specs.declared.entry.Entry.{Entry}
use Rattle.nvme_model.specs.declared.entry.PublishLine.{PublishLine}
use Rattle.nvme_model.specs.declared.submission.Submission.{Submission}
use Rattle.host_laws.proofs.Discipline.{SwapAt, only_at}
use Rattle.host_laws.proofs.Elements.{In, any_in, each_in, get_cases, in_left, in_right, of_filter}
use Rattle.host_laws.proofs.SwapEntries.{OnQueue, publish_stands, swaps_in_are}
use Rattle.host_laws.specs.Rules.{is_cut_off, keeps_takeover_discipline, releases_right, takeover_disciplined}
use Rattle.host_laws.specs.Rules.{takeovers_within, takes_right}
use Rattle.host_laws.specs.Takeovers.{Takeover, moves, moves_in, takeovers, takeovers_in}
use Rattle.host_laws.proofs.Entries.{IsOn, batch_cases, takeovers_in_are}

-- the moves of a Publish that are of the area, and its takeovers
abbrev pub own_moves : Range → Past → PublishLine → List Swap
own_moves slots past p = in_area slots (moves_in p.queue (length (published_entries past p.queue)) p.batch)

abbrev pub own_takeovers : Past → PublishLine → List Takeover
own_takeovers past p = takeovers_in p.queue (length (published_entries past p.queue)) p.batch

-- what a Publish that keeps the discipline has, where those before it do
pub record Keeps (c : ConfigNumbers) (slots : Range) (past : Past) (p : PublishLine) : Type 0 where
  pub before : takeover_disciplined c slots past ≡ true
  pub only : only_swaps slots p.queue (length (published_entries past p.queue)) p.batch (own_moves slots past p) ≡ true
  pub fresh : fresh_names (own_moves slots past p) (in_area slots (moves past)) ≡ true
  pub right : releases_right c past [] (own_moves slots past p) ≡ true
  pub takes : list_all (takes_right c past) (takeovers_within slots (own_takeovers past p)) ≡ true
  pub uncut : is_cut_off c slots past (completion_queue c p.queue) ≡ false

pub kept : (c : ConfigNumbers) (slots : Range) (past : Past) (p : PublishLine)
    → takeover_disciplined c slots (Entry.Publish p ∷ past) ≡ true → Keeps c slots past p
kept c slots past p h =
    let a = and_parts (takeover_disciplined c slots past) (keeps_takeover_discipline c slots past p) h in
    let b = and_parts _ _ a.1 in
    let d = and_parts _ _ b.0 in
    let e = and_parts _ _ d.0 in
    let f = and_parts _ _ e.0 in
    record { before = a.0; only = f.0; fresh = f.1; right = e.1; takes = d.1; uncut = not-true _ b.1 }

pub kept_before : (c : ConfigNumbers) (slots : Range) (e : Entry) (past : Past)
    → takeover_disciplined c slots (e ∷ past) ≡ true → takeover_disciplined c slots past ≡ true
kept_before c slots (Entry.Publish p) past h = (kept c slots past p h).before
kept_before c slots (Entry.Fetch p) past h = h
kept_before c slots (Entry.Grant p) past h = h
kept_before c slots (Entry.Block p) past h = h
kept_before c slots (Entry.Post p) past h = h
kept_before c slots (Entry.Reap p) past h = h

pub kept_earlier : (c : ConfigNumbers) (slots : Range) (later past : Past)
    → takeover_disciplined c slots (later ++ past) ≡ true → takeover_disciplined c slots past ≡ true
kept_earlier c slots [] past h = h
kept_earlier c slots (e ∷ later) past h = kept_earlier c slots later past (kept_before c slots e (later ++ past) h)

-- a takeover whose second entry is number i of queue q
pub record TakeoverAt (past : Past) (q i : ℕ) : Type 0 where
  pub takeover : Takeover
  pub there : In takeover (takeovers past)
  pub queue : takeover.queue ≡ q
  pub number : suc takeover.number ≡ i

abbrev pub MoveAt : Past → ℕ → ℕ → Type 0
MoveAt past q i = SwapAt past q i ⊎ TakeoverAt past q i

by_publish : (past : Past) (p : PublishLine) (w : Swap) (q i : ℕ)
    → In w (moves_in p.queue (length (published_entries past p.queue)) p.batch) → p.queue ≡ q → suc w.number ≡ i
    → MoveAt (Entry.Publish p ∷ past) q i
by_publish past p w q i there on at =
    let j = length (published_entries past p.queue) in
    let all = published_entries (Entry.Publish p ∷ past) p.queue in
    elim (batch_cases p.queue j p.batch w there) [
      | inl x ↦
          let o = each_in (OnQueue all p.queue) (swaps_in p.queue j p.batch) w
          (swaps_in_are all p.queue j p.batch (publish_stands past p)) x in
          inl (record {
            swap = w;
            there = in_left w (swaps_in p.queue j p.batch) (swaps past) x;
            queue = o.0 ∙ on;
            number = at;
          })
      | inr x ↦
          let o = each_in (IsOn all p.queue) (takeovers_in p.queue j p.batch) x.0
          (takeovers_in_are all p.queue j p.batch (publish_stands past p)) x.1 in
          inr (record {
            takeover = x.0;
            there = in_left x.0 (takeovers_in p.queue j p.batch) (takeovers past) x.1;
            queue = o.0 ∙ on;
            number = ap (λ (s : Swap). suc s.number) (sym x.2) ∙ at;
          })
    ]

pub moved_by : (c : ConfigNumbers) (slots : Range) (past : Past) (q i : ℕ) (s : Submission)
    → takeover_disciplined c slots past ≡ true → slice_get (published_entries past q) i ≡ Some s
    → touches slots s ≡ true → MoveAt past q i
moved_by c slots [] q i s d g t = absurd (let f : None ≡ Some s = g in cc)
moved_by c slots (Entry.Publish p ∷ past) q i s d g t =
    let k = kept c slots past p d in
    elim (get_cases (published_entries past q) (cond (eqb p.queue q) p.batch []) i s g) [
      | inl e ↦ old (moved_by c slots past q i s k.before e t)
      | inr m ↦ new k (eqb p.queue q) refl m.0 m.1 m.2
    ]
  where
    old : MoveAt past q i → MoveAt (Entry.Publish p ∷ past) q i
    old (inl w) =
        inl (record {
          swap = w.swap;
          there = in_right w.swap _ (swaps past) w.there;
          queue = w.queue;
          number = w.number;
        })
    old (inr w) =
        inr (record {
          takeover = w.takeover;
          there = in_right w.takeover _ (takeovers past) w.there;
          queue = w.queue;
          number = w.number;
        })

    new : Keeps c slots past p → (b : Bool) → eqb p.queue q ≡ b → (m : ℕ) → i ≡ length (published_entries past q) + m
        → slice_get (cond b p.batch []) m ≡ Some s → MoveAt (Entry.Publish p ∷ past) q i
    new k false e m l h = absurd (let f : None ≡ Some s = h in cc)
    new k true e m l h =
        let same = eqb-true p.queue q e in
        let j = length (published_entries past p.queue) in
        let w = any_in (λ w. eqb (suc w.number) (j + m)) (own_moves slots past p)
        (only_at slots p.queue j p.batch (own_moves slots past p) m s k.only h t) in
        by_publish past p w.0 q i
        (of_filter (λ s. has_block slots s.lba) (moves_in p.queue j p.batch) w.0 w.1) same
        (eqb-true (suc w.0.number) (j + m) w.2
        ∙ (ap (λ (x : ℕ). length (published_entries past x) + m) same ∙ sym l))
moved_by c slots (Entry.Fetch p ∷ past) q i s d g t = same_move (moved_by c slots past q i s d g t)
  where
    same_move : MoveAt past q i → MoveAt (Entry.Fetch p ∷ past) q i
    same_move (inl w) = inl (record { swap = w.swap; there = w.there; queue = w.queue; number = w.number })
    same_move (inr w) = inr (record { takeover = w.takeover; there = w.there; queue = w.queue; number = w.number })
moved_by c slots (Entry.Grant p ∷ past) q i s d g t = same_move (moved_by c slots past q i s d g t)
  where
    same_move : MoveAt past q i → MoveAt (Entry.Grant p ∷ past) q i
    same_move (inl w) = inl (record { swap = w.swap; there = w.there; queue = w.queue; number = w.number })
    same_move (inr w) = inr (record { takeover = w.takeover; there = w.there; queue = w.queue; number = w.number })
moved_by c slots (Entry.Block p ∷ past) q i s d g t = same_move (moved_by c slots past q i s d g t)
  where
    same_move : MoveAt past q i → MoveAt (Entry.Block p ∷ past) q i
    same_move (inl w) = inl (record { swap = w.swap; there = w.there; queue = w.queue; number = w.number })
    same_move (inr w) = inr (record { takeover = w.takeover; there = w.there; queue = w.queue; number = w.number })
moved_by c slots (Entry.Post p ∷ past) q i s d g t = same_move (moved_by c slots past q i s d g t)
  where
    same_move : MoveAt past q i → MoveAt (Entry.Post p ∷ past) q i
    same_move (inl w) = inl (record { swap = w.swap; there = w.there; queue = w.queue; number = w.number })
    same_move (inr w) = inr (record { takeover = w.takeover; there = w.there; queue = w.queue; number = w.number })
moved_by c slots (Entry.Reap p ∷ past) q i s d g t = same_move (moved_by c slots past q i s d g t)
  where
    same_move : MoveAt past q i → MoveAt (Entry.Reap p ∷ past) q i
    same_move (inl w) = inl (record { swap = w.swap; there = w.there; queue = w.queue; number = w.number })
    same_move (inr w) = inr (record { takeover = w.takeover; there = w.there; queue = w.queue; number = w.number })
