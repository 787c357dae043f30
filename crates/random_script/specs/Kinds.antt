-- What the lines of a script of a kind are.
use Rattle.std.specs.Prelude.{ℕ, List, Option, Some, None, codes, ◌≡◌, ◌≢◌, ◌≤◌, ◌⊎◌}
use Rattle.nvme_model.specs.Array.{zeros}
use Rattle.nvme_model.specs.Slots.{Name, slot_block}
use Rattle.entry_codec.specs.declared.fuse.Fuse.{Fuse}
use Rattle.random_script.specs.declared.script_kind.ScriptKind.{ScriptKind}
use Rattle.random_script.specs.declared.script_kind.ScriptKind.TheVariants.{Single, Pairs, Units, Queues, Hostile}
use Rattle.random_script.specs.declared.script_kind.ScriptKind.TheVariants.{Slots, Mixed}
use Rattle.script_lines.specs.declared.written.CommandWord.{CommandWord}
use Rattle.script_lines.specs.declared.written.EntryForm.{EntryForm}
use Rattle.script_lines.specs.declared.written.EntryForm.TheVariants.{Named, Raw}
use Rattle.script_lines.specs.declared.written.WrittenEntry.{WrittenEntry}
use Rattle.script_lines.specs.declared.written.WrittenLine.{WrittenLine}
use Rattle.script_lines.specs.declared.written.WrittenLine.TheVariants.{Publish, Fetch, Grant, Block, Post, Reap}
use Rattle.script_lines.specs.declared.written.WrittenLine.TheVariants.{Settle, Medium}

-- the name of a kind
abbrev pub script_kind_name : ScriptKind → List ℕ
script_kind_name Single = codes "single"
script_kind_name Pairs = codes "pairs"
script_kind_name Units = codes "units"
script_kind_name Queues = codes "queues"
script_kind_name Hostile = codes "hostile"
script_kind_name Slots = codes "slots"
script_kind_name Mixed = codes "mixed"

-- The entry is raw.
abbrev pub IsRaw : EntryForm → Type 0
IsRaw (Named c) = ⊥
IsRaw (Raw bytes) = Unit {0}

-- The entry is a named command by itself.
abbrev pub IsSingleCommand : EntryForm → Type 0
IsSingleCommand (Named c) = c.fuse ≡ Fuse.Normal
IsSingleCommand (Raw bytes) = ⊥

-- The entry is a named command by itself of more than one block, and no Flush.
abbrev pub IsLong : EntryForm → Type 0
IsLong (Named c) = (c.fuse ≡ Fuse.Normal) × (1 ≤ c.nlb) × (c.name ≢ CommandWord.Flush)
IsLong (Raw bytes) = ⊥

-- The entry is a named command by itself that says one block.
abbrev pub IsShort : EntryForm → Type 0
IsShort (Named c) = (c.fuse ≡ Fuse.Normal) × (c.nlb ≡ 0)
IsShort (Raw bytes) = ⊥

-- The two entries are a fused pair: a named Compare with FUSE 1 and a named Write with FUSE 2, on the same blocks.
abbrev pub IsPair : EntryForm → EntryForm → Type 0
IsPair (Named c) (Named d) =
    (c.name ≡ CommandWord.Compare) × (c.fuse ≡ Fuse.First) × (d.name ≡ CommandWord.Write) × (d.fuse ≡ Fuse.Second)
    × (d.slba ≡ c.slba) × (d.nlb ≡ c.nlb)
IsPair _ _ = ⊥

-- It says one block.
abbrev pub IsOfOne : EntryForm → Type 0
IsOfOne (Named c) = c.nlb ≡ 0
IsOfOne (Raw bytes) = ⊥

-- The data is the block of a slot that is held, under the name of a claim.
abbrev pub IsHeldBlock : List ℕ → Type 0
IsHeldBlock bytes = (name : Name) × (1 ≤ name.host) × (1 ≤ name.serial) × (bytes ≡ slot_block name)

-- What is compared and what is written claim a slot, a free one for a name; or they release one that isn't free.
abbrev pub IsSwapData : List ℕ → List ℕ → Type 0
IsSwapData found written =
    ((found ≡ zeros) × IsHeldBlock written) ⊎ ((found ≢ zeros) × (written ≡ zeros))

-- The two entries claim a slot or release it: a pair on one block with such data.
abbrev pub IsSwap : WrittenEntry → WrittenEntry → Type 0
IsSwap x y = IsPair x.form y.form × IsOfOne x.form × IsSwapData x.payload y.payload

-- A second entry, where there is one, is so.
abbrev pub IfSecond : (WrittenEntry → Type 0) → Option WrittenEntry → Type 0
IfSecond P None = Unit {0}
IfSecond P (Some x) = P x

-- There is a second entry, and it is so.
abbrev pub HasSecondSo : (WrittenEntry → Type 0) → Option WrittenEntry → Type 0
HasSecondSo P None = ⊥
HasSecondSo P (Some x) = P x

-- The entries of a `publish` line, by the kind of the script.
abbrev pub IsPublishOf : ScriptKind → WrittenEntry → Option WrittenEntry → Type 0
IsPublishOf Single x second = IsSingleCommand x.form × (second ≡ None)
IsPublishOf Pairs x second = HasSecondSo (λ y. IsPair x.form y.form) second
IsPublishOf Units x second = IsLong x.form × (second ≡ None)
IsPublishOf Queues x second = IsShort x.form × IfSecond (λ y. IsShort y.form) second
IsPublishOf Hostile x second = IsRaw x.form × IfSecond (λ y. IsRaw y.form) second
IsPublishOf Slots x second = HasSecondSo (IsSwap x) second
IsPublishOf Mixed x second = Unit {0}

-- The line may stand in a script of this kind: a `publish` line has such entries, and nothing is asked of the others.
abbrev pub IsOfKind : ScriptKind → WrittenLine → Type 0
IsOfKind kind (Publish p) = IsPublishOf kind p.first p.second
IsOfKind kind (Fetch queue) = Unit {0}
IsOfKind kind (Grant ticket) = Unit {0}
IsOfKind kind (Block ticket) = Unit {0}
IsOfKind kind (Post ticket) = Unit {0}
IsOfKind kind (Reap queue) = Unit {0}
IsOfKind kind Settle = Unit {0}
IsOfKind kind (Medium block) = Unit {0}
