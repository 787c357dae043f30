-- Without a takeover belief and the discipline are those of claims and releases alone.
use Rattle.std.proofs.Common.{◌≡◌, ℕ, suc, Bool, true, not, ◌&&◌, ◌||◌, List, [], ◌∷◌, ◌++◌, length, map, refl}
use Rattle.std.proofs.Common.{ap, ap₂, ◌∙◌, eqb, append-nil}
use Rattle.std.specs.List.{list_all, list_any}
use Rattle.std.proofs.Math.Bool.{and-true}
use Rattle.nvme_model.specs.Array.{has_block}
use Rattle.nvme_model.specs.Config.{completion_queue}
use Rattle.nvme_model.specs.History.{Past}
use Rattle.nvme_model.specs.Queues.{published_entries}
use Rattle.nvme_model.specs.Slots.{Name, Swap, believed, disciplined, fresh_names, in_area, keeps_discipline}
use Rattle.nvme_model.specs.Slots.{on_its_queue, only_swaps, reaped_success, released_right, releases, same_name}
use Rattle.nvme_model.specs.Slots.{swaps, swaps_in}
use Rattle.nvme_model.specs.declared.array.Range.{Range}
use Rattle.nvme_model.specs.declared.config.ConfigNumbers.{ConfigNumbers}
use Rattle.nvme_model.specs.declared.entry.Entry.{Entry}
use Rattle.nvme_model.specs.declared.entry.PublishLine.{PublishLine}
use Rattle.host_laws.specs.Rules.{keeps_takeover_discipline, releases_right, takeover_disciplined}
use Rattle.host_laws.specs.Rules.{takeovers_within, takes_right}
use Rattle.host_laws.specs.Takeovers.{Takeover, giving, is_given_on, still_believed, takeovers, takeovers_in}
use Rattle.host_laws.specs.Takeovers.{took_effect}

pub believed_as_before : (c : ConfigNumbers) (past : Past) (l : ℕ) (n : Name) → takeovers past ≡ []
    → still_believed c past l n ≡ believed c past l n
believed_as_before c past l n e =
    let won = λ (s : Swap). s.claims && eqb s.lba l && same_name s.name n
    && reaped_success c past s.queue (suc s.number) in
    let kept = not (list_any (λ s. releases s l n) (swaps past)) in
    ap (λ (ws : List Takeover). (list_any won (swaps past ++ map giving ws) && kept)
    && not (list_any (λ w. eqb w.lba l && same_name w.dead n && took_effect past w.queue w.number) ws)) e
    ∙ (and-true (list_any won (swaps past ++ []) && kept)
    ∙ ap (λ (ss : List Swap). list_any won ss && kept) (append-nil (swaps past)))

given_as_before : (c : ConfigNumbers) (past : Past) (s : Swap) → takeovers past ≡ []
    → is_given_on c past (completion_queue c s.queue) s.lba s.name ≡ on_its_queue c past s
given_as_before c past s e =
    let gives = λ (w : Swap). w.claims && eqb w.lba s.lba && same_name w.name s.name
    && eqb (completion_queue c w.queue) (completion_queue c s.queue) in
    ap (λ (ws : List Takeover). list_any gives (swaps past ++ map giving ws)) e
    ∙ ap (list_any gives) (append-nil (swaps past))

right_as_before : (c : ConfigNumbers) (past : Past) (earlier of : List Swap) → takeovers past ≡ []
    → releases_right c past earlier of ≡ released_right c past earlier of
right_as_before c past earlier [] e = refl
right_as_before c past earlier (s ∷ of) e =
    let alone = not (list_any (λ w. releases w s.lba s.name) earlier) in
    ap₂ (λ (x y : Bool). x && y)
    (ap₂ (λ (x y : Bool). s.claims || (x && alone && y)) (believed_as_before c past s.lba s.name e)
    (given_as_before c past s e)) (right_as_before c past (s ∷ earlier) of e)

-- the discipline of a batch, by the takeovers before it and those in it
keeps_by : ConfigNumbers → Range → Past → PublishLine → List Takeover → List Takeover → Bool
keeps_by c slots past p ws vs =
    let j = length (published_entries past p.queue) in
    let of = in_area slots (swaps_in p.queue j p.batch ++ map giving vs) in
    only_swaps slots p.queue j p.batch of && fresh_names of (in_area slots (swaps past ++ map giving ws))
    && releases_right c past [] of && list_all (takes_right c past) (takeovers_within slots vs)
    && not (list_any (λ w. has_block slots w.lba
    && is_given_on c past (completion_queue c p.queue) w.lba w.dead) ws)

keeps_without : (c : ConfigNumbers) (slots : Range) (past : Past) (p : PublishLine) → takeovers past ≡ []
    → keeps_by c slots past p [] [] ≡ keeps_discipline c slots past p
unfolding keeps_by
keeps_without c slots past p e =
    let j = length (published_entries past p.queue) in
    let all = λ (of before : List Swap). only_swaps slots p.queue j p.batch (in_area slots of)
    && fresh_names (in_area slots of) (in_area slots before) && releases_right c past [] (in_area slots of) in
    and-true (all (swaps_in p.queue j p.batch ++ []) (swaps past ++ []) && true)
    ∙ (and-true (all (swaps_in p.queue j p.batch ++ []) (swaps past ++ []))
    ∙ (ap₂ all (append-nil (swaps_in p.queue j p.batch)) (append-nil (swaps past))
    ∙ ap (λ (x : Bool). only_swaps slots p.queue j p.batch (in_area slots (swaps_in p.queue j p.batch))
    && fresh_names (in_area slots (swaps_in p.queue j p.batch)) (in_area slots (swaps past)) && x)
    (right_as_before c past [] (in_area slots (swaps_in p.queue j p.batch)) e)))

pub keeps_as_before : (c : ConfigNumbers) (slots : Range) (past : Past) (p : PublishLine) → takeovers past ≡ []
    → takeovers_in p.queue (length (published_entries past p.queue)) p.batch ≡ []
    → keeps_takeover_discipline c slots past p ≡ keeps_discipline c slots past p
unfolding keeps_by
keeps_as_before c slots past p e f =
    let j = length (published_entries past p.queue) in
    ap₂ (keeps_by c slots past p) e f ∙ keeps_without c slots past p e

pub no_parts : (xs ys : List Takeover) → xs ++ ys ≡ [] → (xs ≡ []) × (ys ≡ [])
no_parts [] ys e = (refl, e)
no_parts (x ∷ xs) ys e = absurd (let f = e in cc)

pub disciplined_as_before : (c : ConfigNumbers) (slots : Range) (past : Past) → takeovers past ≡ []
    → takeover_disciplined c slots past ≡ disciplined c slots past
disciplined_as_before c slots [] e = refl
disciplined_as_before c slots (Entry.Publish p ∷ past) e =
    let x = no_parts (takeovers_in p.queue (length (published_entries past p.queue)) p.batch) (takeovers past) e in
    ap₂ (λ (a b : Bool). a && b) (disciplined_as_before c slots past x.1) (keeps_as_before c slots past p x.1 x.0)
disciplined_as_before c slots (Entry.Fetch p ∷ past) e = disciplined_as_before c slots past e
disciplined_as_before c slots (Entry.Grant p ∷ past) e = disciplined_as_before c slots past e
disciplined_as_before c slots (Entry.Block p ∷ past) e = disciplined_as_before c slots past e
disciplined_as_before c slots (Entry.Post p ∷ past) e = disciplined_as_before c slots past e
disciplined_as_before c slots (Entry.Reap p ∷ past) e = disciplined_as_before c slots past e
