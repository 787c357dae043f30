-- What a line of a script asks for, by its words.
use Rattle.std.specs.Prelude.{ℕ, List, [], ◌∷◌, Option, Some, None}
use Rattle.entry_codec.specs.Fuse.{fuse_number}
use Rattle.nvme_model.specs.declared.step.Step.{Step}
use Rattle.nvme_model.specs.declared.submission.Submission.{Submission}
use Rattle.script_lines.specs.Commands.{command_bytes}
use Rattle.script_lines.specs.declared.line.ScriptLine.{ScriptLine}
use Rattle.script_lines.specs.declared.written.CommandWord.{CommandWord}
use Rattle.script_lines.specs.declared.written.CommandWord.TheVariants.{Flush, Write, Read, Compare, WriteZeroes}
use Rattle.script_lines.specs.declared.written.EntryForm.{EntryForm}
use Rattle.script_lines.specs.declared.written.EntryForm.TheVariants.{Named, Raw}
use Rattle.script_lines.specs.declared.written.WrittenEntry.{WrittenEntry}
use Rattle.script_lines.specs.declared.written.WrittenLine.{WrittenLine}
use Rattle.script_lines.specs.declared.written.WrittenLine.TheVariants.{Publish, Fetch, Grant, Block, Post, Reap}
use Rattle.script_lines.specs.declared.written.WrittenLine.TheVariants.{Settle, Medium}

-- the opcode of a command's name (Base 2.0, Flush command; NVM 1.0, Write, Read, Compare and Write Zeroes commands)
abbrev pub name_opcode : CommandWord → ℕ
name_opcode Flush = 0
name_opcode Write = 1
name_opcode Read = 2
name_opcode Compare = 5
name_opcode WriteZeroes = 8

-- the 64 bytes of an entry
abbrev pub form_bytes : EntryForm → List ℕ
form_bytes (Named c) = command_bytes (name_opcode c.name) (fuse_number c.fuse) c.cid c.slba c.nlb
form_bytes (Raw bytes) = bytes

-- the entry with its data
abbrev pub submission_asked : WrittenEntry → Submission
submission_asked x = record { entry = form_bytes x.form; payload = x.payload }

-- the second entry, where there is one
abbrev pub second_asked : Option WrittenEntry → List Submission
second_asked None = []
second_asked (Some x) = submission_asked x ∷ []

-- the step that a line asks for, if it asks for one
abbrev pub step_asked : WrittenLine → Option Step
step_asked (Publish p) = Some (Step.Publish p.queue (submission_asked p.first ∷ second_asked p.second))
step_asked (Fetch queue) = Some (Step.Fetch queue)
step_asked (Grant ticket) = Some (Step.Grant ticket)
step_asked (Block ticket) = Some (Step.Block ticket)
step_asked (Post ticket) = Some (Step.Post ticket)
step_asked (Reap queue) = Some (Step.Reap queue)
step_asked Settle = None
step_asked (Medium block) = None

-- What a line of a script asks for.
abbrev pub asked : WrittenLine → ScriptLine
asked (Publish p) = ScriptLine.Step (Step.Publish p.queue (submission_asked p.first ∷ second_asked p.second))
asked (Fetch queue) = ScriptLine.Step (Step.Fetch queue)
asked (Grant ticket) = ScriptLine.Step (Step.Grant ticket)
asked (Block ticket) = ScriptLine.Step (Step.Block ticket)
asked (Post ticket) = ScriptLine.Step (Step.Post ticket)
asked (Reap queue) = ScriptLine.Step (Step.Reap queue)
asked Settle = ScriptLine.Settle
asked (Medium block) = ScriptLine.Medium block
