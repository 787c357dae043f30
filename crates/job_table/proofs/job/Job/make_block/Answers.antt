use Rattle.std.proofs.Common.{rules, List, ap, drop, length, take, ℕ, ◌++◌, ◌∙◌}
use Rattle.block_array.specs.Blocks.{contents_of}
use Rattle.job_table.specs.Keeping.{read_of, written_on}
use Rattle.job_table.proofs.Noted.{blocks_on, box_count, made, same_size}
use Rattle.job_table.proofs.job.Job.make_block.Goals as goal

pub returns-clause-job : goal.returns-clause-job
returns-clause-job c =
    let j = c.self.inside in
    let p = c.unwrap-run.result in
    let v = c.args.volume.now in
    let f = c.touch-found.result in
    let boxes = c.touch-found.new.boxes in
    let lent = c.as_mut_slice-boxes.result.now in
    let same_boxes = same_size j.write.items boxes
    (box_count lent boxes p v j.written f c.touch-found.ensures.boxes
    ∙ ap length c.as_mut_slice-boxes.ensures.value) in
    let after = ap contents_of same_boxes ∙ c.touch-found.ensures.boxes in
    let write = blocks_on (contents_of lent) _ p v j.written c.written_then-count.result f after
    c.written_then-count.ensures.value
    ∙ ap (λ bs. written_on p.op f (drop j.written (contents_of bs))) c.as_mut_slice-boxes.ensures.value in
    let same = same_size j.read c.touch-found.new.read
    (c.touch-found.ensures.size ∙ ap length c.as_mut_slice-read.ensures.value) in
    let read = same ∙ c.touch-found.ensures.read
    ∙ ap (λ (bytes : List ℕ). read_of bytes j.slba p v f) c.as_mut_slice-read.ensures.value in
    let r = made (record {
      queue = j.queue;
      progress = j.progress;
      slba = j.slba;
      compare = j.compare;
      write = drop j.written (contents_of j.write.items);
      read = j.read;
    }) c.args.self.now p v f c.note.result
    c.note.new.self
    (drop c.written_then-count.result
    (contents_of (take (length j.write.items) (boxes ++ drop (length boxes) j.write.items))))
    (take (length j.read) (c.touch-found.new.read ++ drop (length c.touch-found.new.read) j.read)) c.self.view_is
    c.requires.open (rw c.unwrap-run.ensures at c.run.ensures.value) c.note.ensures.done c.note.ensures.noted write
    read in
    search (rules, r)
