-- What is asked of the array one operation at a time gives its value and its answers.
use Rattle.std.proofs.Common.{◌≡◌, ℕ, ◌+◌, ◌≤◌, Bool, true, false, ◌&&◌, cond, List, [], ◌∷◌, length, map, take, drop}
use Rattle.std.proofs.Common.{replicate, refl, sym, ap, ap₂, ◌∙◌, subst, Option, Some, None, eqb}
use Rattle.std.proofs.lemmas.Bool.{and_left, and_right, cond-false}
use Rattle.std.proofs.Math.Bool.{and-true}
use Rattle.nvme_model.specs.declared.config.ConfigNumbers.{ConfigNumbers}
use Rattle.nvme_model.specs.Array.{zeros, blocks_from, has_block}
use Rattle.nvme_model.specs.History.{Past}
use Rattle.nvme_model.specs.Tickets
use Rattle.nvme_model.specs.Tickets.{Ticket}
use Rattle.nvme_model.specs.Operations.{op, compare_data, write_data, write_data_by}
use Rattle.nvme_model.specs.Open.{unit_range, granted, open_units}
use Rattle.nvme_model.specs.Value.{value, all_equal, writes}
use Rattle.nvme_model.specs.Sequential.{Array, ArrayAnswer, ArrayRequest, ArrayReply, ArrayMachine, holds, says}
use Rattle.nvme_model.specs.Sequential.{same_blocks, overwrite}
use Rattle.nvme_model.specs.Sequential.{serve, machine_after, machine, operation, requests, sequential, answer_by}
use Rattle.nvme_model.specs.Sequential.{effect_answers}
use Rattle.nvme_model.specs.Legal.{IsLegal}
use Rattle.nvme_model.specs.declared.array.Range.{Range}
use Rattle.nvme_model.specs.declared.operation.Op.{Op}
use Rattle.nvme_model.specs.declared.entry.BlockLine.{BlockLine}
use Rattle.nvme_model.specs.declared.entry.Entry.{Entry}
use Rattle.nvme_model.proofs.Lists.{each_filter, each_find}
use Rattle.nvme_model.proofs.Rules.{follows}
use Rattle.nvme_model.proofs.Blocks.{may_block}
use Rattle.nvme_model.proofs.Stepping.{writes_by}
use Rattle.nvme_model.proofs.Holding.{range_of_entry}
use Rattle.nvme_model.proofs.Medium.{is_open}
use Rattle.nvme_model.proofs.BlockLists.{listed, length_listed, listed_same, listed_const, reads, overwrites, compares}
use Rattle.nvme_model.proofs.BlockLists.{with_range}
use Rattle.nvme_model.proofs.InVolume.{units_in_volume}

-- ---- one operation

-- the contents after an effect
abbrev after : Option Op → (ℕ → List ℕ) → Ticket → Range → ℕ → List ℕ
after o f k r l = cond (has_block r l && writes_by o (all_equal f k r)) (write_data k l) (f l)

abbrev served : Array → ArrayAnswer → Array × ArrayAnswer
served array answer = (array, answer)

-- it writes nothing
unchanged : (o : Option Op) (f : ℕ → List ℕ) (k : Ticket) (r : Range) (n : ℕ) → writes_by o (all_equal f k r) ≡ false
    → listed f 0 n ≡ listed (after o f k r) 0 n
unchanged o f k r n w = listed_same f (after o f k r) 0 n
    (λ l a b. sym (cond-false _ _ _ (and_right (has_block r l) _ w)))

-- it writes its whole range
changed : (o : Option Op) (f : ℕ → List ℕ) (k : Ticket) (r : Range) (n : ℕ) → writes_by o (all_equal f k r) ≡ true
    → listed (with_range f (write_data k) r) 0 n ≡ listed (after o f k r) 0 n
changed o f k r n w =
    listed_same (with_range f (write_data k) r) (after o f k r) 0 n
    (λ l a b. ap (λ (x : Bool). cond x (write_data k l) (f l))
    (sym (ap (λ (x : Bool). has_block r l && x) w ∙ and-true (has_block r l))))

read_answer : (f : ℕ → List ℕ) (r : Range) (n : ℕ) → r.slba + r.blocks ≤ n
    → holds (take r.blocks (drop r.slba (listed f 0 n))) ≡ holds (listed f r.slba r.blocks)
read_answer f r n l = ap holds (reads f r.slba r.blocks n l)

same_answer : (f : ℕ → List ℕ) (k : Ticket) (r : Range) (n : ℕ) → r.slba + r.blocks ≤ n
    → same_blocks (take (length (listed (compare_data k) r.slba r.blocks)) (drop r.slba (listed f 0 n)))
    (listed (compare_data k) r.slba r.blocks) ≡ all_equal f k r
same_answer f k r n l =
    ap (λ (i : ℕ). same_blocks (take i (drop r.slba (listed f 0 n))) (listed (compare_data k) r.slba r.blocks))
    (length_listed (compare_data k) r.slba r.blocks)
    ∙ (ap (λ (xs : Array). same_blocks xs (listed (compare_data k) r.slba r.blocks)) (reads f r.slba r.blocks n l)
    ∙ compares f (compare_data k) r.slba r.blocks)

zeros_listed : (k : Ticket) (r : Range) → op k ≡ Some Op.WriteZeroes
    → replicate r.blocks zeros ≡ listed (write_data k) r.slba r.blocks
zeros_listed k r e =
    sym (listed_const zeros r.slba r.blocks)
    ∙ listed_same (λ l. zeros) (write_data k) r.slba r.blocks
    (λ l a b. sym (ap (λ (o : Option Op). write_data_by o k l) e))

pub serve_step : (f : ℕ → List ℕ) (k : Ticket) (r : Range) (n : ℕ) (o : Option Op) → op k ≡ o → r.slba + r.blocks ≤ n
    → serve (operation o k r) (listed f 0 n) ≡ served (listed (after o f k r) 0 n) (answer_by f o k r)
serve_step f k r n None e l = ap₂ served (unchanged None f k r n refl) (read_answer f r n l)
serve_step f k r n (Some Op.Read) e l = ap₂ served (unchanged (Some Op.Read) f k r n refl) (read_answer f r n l)
serve_step f k r n (Some Op.Compare) e l =
    ap₂ served (unchanged (Some Op.Compare) f k r n refl) (ap says (same_answer f k r n l))
serve_step f k r n (Some Op.Write) e l =
    ap₂ served (overwrites f (write_data k) r.slba r.blocks n l ∙ changed (Some Op.Write) f k r n refl) refl
serve_step f k r n (Some Op.WriteZeroes) e l =
    ap₂ served (ap (λ (xs : Array). overwrite r.slba xs (listed f 0 n)) (zeros_listed k r e)
    ∙ (overwrites f (write_data k) r.slba r.blocks n l ∙ changed (Some Op.WriteZeroes) f k r n refl)) refl
serve_step f k r n (Some Op.Pair) e l =
    ap₂ served (ap (λ (x : Bool).
    cond x (overwrite r.slba (listed (write_data k) r.slba r.blocks) (listed f 0 n)) (listed f 0 n))
    (same_answer f k r n l) ∙ by_same (all_equal f k r) refl) (ap says (same_answer f k r n l))
  where
    by_same : (x : Bool) → all_equal f k r ≡ x
        → cond x (overwrite r.slba (listed (write_data k) r.slba r.blocks) (listed f 0 n)) (listed f 0 n)
        ≡ listed (after (Some Op.Pair) f k r) 0 n
    by_same true q = overwrites f (write_data k) r.slba r.blocks n l ∙ changed (Some Op.Pair) f k r n q
    by_same false q = unchanged (Some Op.Pair) f k r n q

-- ---- the range of an entry's unit

pub entry_inside : (c : ConfigNumbers) (past : Past) (b : BlockLine) → IsLegal c (Entry.Block b ∷ past)
    → (unit_range past b.ticket b.unit).slba + (unit_range past b.ticket b.unit).blocks ≤ c.blocks
entry_inside c past b h =
    let m = may_block c past b h in
    let p = (follows c past (Entry.Block b) h).before in
    let all = each_filter (λ g. g.range.slba + g.range.blocks ≤ c.blocks)
    (λ g. g.range.slba + g.range.blocks ≤ c.blocks) (is_open past) (λ g l e. l) (granted past)
    (units_in_volume c past p) in
    subst (λ (r : Range). r.slba + r.blocks ≤ c.blocks) (sym (range_of_entry past b m.0 m.2))
    (each_find (λ g. g.range.slba + g.range.blocks ≤ c.blocks) (λ g. eqb g.ticket b.ticket) (open_units past) m.0 all
    m.1).0

-- ---- the theorem

-- what the definitions say of the machine
abbrev pub expected : ConfigNumbers → Past → ArrayMachine
expected c past = record { contents = listed (value past) 0 c.blocks; replies = effect_answers past }

abbrev with_contents : List ArrayReply → Array → ArrayMachine
with_contents replies array = record { contents = array; replies = replies }

pub sequential_is : (c : ConfigNumbers) (past : Past) → IsLegal c past → sequential c past ≡ expected c past
sequential_is c [] h = ap (with_contents []) (sym (listed_const zeros 0 c.blocks))
sequential_is c (Entry.Block b ∷ past) h =
    go b.effect refl (sequential_is c past (follows c past (Entry.Block b) h).before)
    (serve_step (value past) k r c.blocks (op k) refl (entry_inside c past b h))
  where
    k : Ticket
    k = Tickets.ticket past b.ticket

    r : Range
    r = unit_range past b.ticket b.unit

    request : ArrayRequest
    request = record { ticket = b.ticket; unit = b.unit; operation = operation (op k) k r }

    reply : ArrayReply
    reply = record { ticket = b.ticket; unit = b.unit; answer = answer_by (value past) (op k) k r }

    go : (x : Bool) → b.effect ≡ x → sequential c past ≡ expected c past
        → serve (operation (op k) k r) (listed (value past) 0 c.blocks)
        ≡ served (listed (after (op k) (value past) k r) 0 c.blocks) (answer_by (value past) (op k) k r)
        → machine c.blocks (cond x (request ∷ requests past) (requests past))
        ≡ record {
          contents = listed (value (Entry.Block b ∷ past)) 0 c.blocks;
          replies = cond x (reply ∷ effect_answers past) (effect_answers past);
        }
    go false e ih s =
        ih ∙ ap (with_contents (effect_answers past))
        (listed_same (value past) (value (Entry.Block b ∷ past)) 0 c.blocks
        (λ l i j. sym (cond-false _ _ _ (and_left _ _ (and_left _ _ e)))))
    go true e ih s =
        ap (λ (m : ArrayMachine). machine_after request (serve request.operation m.contents) m.replies) ih
        ∙ (ap (λ (p : Array × ArrayAnswer). machine_after request p (effect_answers past)) s
        ∙ ap (with_contents (reply ∷ effect_answers past))
        (listed_same (after (op k) (value past) k r) (value (Entry.Block b ∷ past)) 0 c.blocks
        (λ l i j. ap (λ (x : Bool).
        cond (x && has_block r l && writes (value past) k r) (write_data k l) (value past l)) (sym e))))
sequential_is c (e ∷ past) h = sequential_is c past (follows c past e h).before

pub contents_are : (c : ConfigNumbers) (past : Past) → IsLegal c past
    → (sequential c past).contents ≡ map (value past) (blocks_from 0 c.blocks)
contents_are c past h = ap (λ (m : ArrayMachine). m.contents) (sequential_is c past h)

pub answers_are : (c : ConfigNumbers) (past : Past) → IsLegal c past → (sequential c past).replies ≡ effect_answers past
answers_are c past h = ap (λ (m : ArrayMachine). m.replies) (sequential_is c past h)
