-- What is said of a file that is drawn, from what was drawn.
use Rattle.std.proofs.Common.{Bool, List, None, Option, Some, ap, ap₂, arith, false, is_none, length, refl, subst}
use Rattle.std.proofs.Common.{sym, true, ℕ, ◌∙◌, ◌≡◌, ◌≤◌}
use Rattle.std.specs.Prelude.{Err, IfSome, Ok, Result, unwrap_or}
use Rattle.std.specs.Io.KnownBytes.{IsAtEnd}
use Rattle.std.proofs.KnownBytes.{Keeps-refl}
use Rattle.line_text.specs.Lines.{whole_lines}
use Rattle.nvme_model.specs.FirstBad.{first_bad_of}
use Rattle.nvme_model.specs.History.{Past}
use Rattle.nvme_model.specs.declared.config.ConfigNumbers.{ConfigNumbers}
use Rattle.casdisk_texts.specs.Files.{HasHistory, file_of}
use Rattle.casdisk_texts.specs.Followed.{StopsFirst}
use Rattle.casdisk_texts.specs.Script.{first_config}
use Rattle.casdisk_texts.specs.declared.fault.RunFault.{RunFault}
use Rattle.casdisk_texts.specs.declared.fault.RunFault.TheVariants.{BadConfig, BadLine, Input, NoMemory, Output}
use Rattle.casdisk_texts.specs.declared.judging.FirstBad.{FirstBad}
use Rattle.casdisk_texts.proofs.Answering.{history_then}
use Rattle.history_check.specs.Kept.{CheckerRun}
use Rattle.picture_shapes.specs.Picture.{PictureState}
use Rattle.picture_svg.specs.Page.{picture_svg}
use Rattle.picture_svg.specs.Drawing.{DrawsText, HasArea, IsDrawn, HasAreaByThen, IsNoStep, IsTooLong, IsUndrawn}
use Rattle.picture_svg.specs.Drawing.{WritesDrawn}
use Rattle.picture_svg.specs.Drawn.{HasDrawing, HasDrawn, end_of, has_no_slot, has_step, is_within, steps_drawn}
use Rattle.picture_svg.specs.Drawn.{steps_to}
use Rattle.picture_svg.specs.declared.drawer.DrawOptions.{DrawOptions}
use Rattle.picture_svg.specs.declared.fault.DrawFault.{DrawFault}
use Rattle.picture_svg.specs.declared.fault.DrawFault.TheVariants.{Beyond, NoSlots, NoStep, Run, TooLong}

-- the last place, from what was judged
ends : (c : ConfigNumbers) (past : Past) (bad : Option ℕ) (n : ℕ) → bad ≡ first_bad_of c past → n ≡ length past
    → unwrap_or bad n ≡ end_of c past
ends c past bad n e f = ap₂ unwrap_or e f

pub drawing_in : (c : ConfigNumbers) (o kept : DrawOptions) (past : Past) (config : ConfigNumbers) (x : CheckerRun)
    (n : ℕ) (bad : FirstBad) (s : PictureState) → has_no_slot o.aspect.lanes.slots ≡ false
    → is_within o.aspect.lanes.slots c.blocks ≡ true → kept ≡ o → HasDrawn c kept past config x n bad s
    → HasDrawing c o past bad.place n s
drawing_in c o kept past config x n bad s slots within same h =
    let k : HasDrawn c o past config x n bad s =
    subst (λ (p : DrawOptions). HasDrawn c p past config x n bad s) same h in
    record {
      slots = slots;
      within = within;
      last = ends c past bad.place n k.judged.first.place k.judged.counted;
      steps = ap (steps_to o.from o.to) (ends c past bad.place n k.judged.first.place k.judged.counted);
      legal = ap is_none k.judged.first.place;
      words = k.words;
      drawn = λ few. k.drawn few;
    }

-- ---- what was answered

module _ (o : DrawOptions) (bad : Option ℕ) (n : ℕ) (s : PictureState) where
  drawn_in : (bytes : List ℕ) (answer : Bool) → HasHistory (λ c past. HasDrawing c o past bad n s) bytes
      → has_step o.from (unwrap_or bad n) ≡ true → steps_to o.from o.to (unwrap_or bad n) ≤ 10000 → answer ≡ is_none bad
      → HasHistory (λ c past. IsDrawn c o past answer (picture_svg s)) bytes
  drawn_in bytes answer h there few e =
      history_then (λ c past. HasDrawing c o past bad n s) (λ c past. IsDrawn c o past answer (picture_svg s))
      (Some bytes) (λ c past is.
      let few' : steps_drawn c o past ≤ 10000 = subst (λ k. k ≤ 10000) is.steps few in
      record {
        there = sym (ap (has_step o.from) is.last) ∙ there;
        few = few';
        slots = is.slots;
        within = is.within;
        legal = e ∙ is.legal;
        words = is.words;
        picture = ap picture_svg (is.drawn few');
      }) h

  pub written : (result : Result Bool DrawFault) (r t v x : Option (List ℕ)) → IsAtEnd t
      → has_no_slot o.aspect.lanes.slots ≡ false → IfSome r (HasHistory (λ c past. HasDrawing c o past bad n s))
      → WritesDrawn o bad n s result v x
      → DrawsText o result r t v x
  written (Ok answer) None t v x end some h w = (end, tt)
  written (Ok answer) (Some bytes) t v x end some h w =
      (end, (picture_svg s, drawn_in bytes answer h w.0 w.1 w.2.0, w.2.1))
  written (Err (Run Output)) None t v x end some h w = (end, tt)
  written (Err (Run Output)) (Some bytes) t v x end some h w =
      (end, (is_none bad, picture_svg s, drawn_in bytes (is_none bad) h w.0 w.1 refl, w.2))
  written (Err (Run NoMemory)) r t v x end some h w = ((some, tt, tt), w.2)
  written (Err (Run (BadLine k))) r t v x end some h w = absurd w.2
  written (Err (Run (BadConfig k))) r t v x end some h w = absurd w.2
  written (Err (Run Input)) r t v x end some h w = absurd w.2
  written (Err NoSlots) r t v x end some h w = absurd w.2
  written (Err (Beyond k)) r t v x end some h w = absurd w.2
  written (Err (NoStep k l)) None t v x end some h w = (end, tt, w.3)
  written (Err (NoStep k l)) (Some bytes) t v x end some h w =
      let is = h.1.2 in
      let none : IsNoStep h.1.0 o (file_of bytes).past k l =
      record { first = w.0; end = w.1 ∙ is.last; behind = w.2; slots = is.slots; within = is.within } in
      (end, (h.0, (h.1.0, h.1.1, none)), w.3)
  written (Err (TooLong k)) None t v x end some h w = (end, tt, w.2)
  written (Err (TooLong k)) (Some bytes) t v x end some h w =
      let is = h.1.2 in
      let long : IsTooLong h.1.0 o (file_of bytes).past k =
      record { count = w.0 ∙ is.steps; many = w.1; slots = is.slots; within = is.within } in
      (end, (h.0, (h.1.0, h.1.1, long)), w.2)

-- ---- nothing was drawn

-- the first line wasn't read
pub first_unread : (o : DrawOptions) (f : RunFault) (r t : Option (List ℕ)) → StopsFirst f r t → HasAreaByThen o f r
first_unread o (BadLine n) r t h = λ more. absurd (omega (arith, h, more))
first_unread o (BadConfig n) r t h = tt
first_unread o Input r t h = tt
first_unread o Output r t h = tt
first_unread o NoMemory r t h = tt

has_area : (o : DrawOptions) (c : ConfigNumbers) (r : Option (List ℕ)) → is_within o.aspect.lanes.slots c.blocks ≡ true
    → IfSome r (λ bytes. first_config (whole_lines bytes) ≡ Some c) → IfSome r (HasArea o)
has_area o c None within known = tt
has_area o c (Some bytes) within known = (c, known, within)

-- a line behind it wasn't
pub unread_behind : (o : DrawOptions) (f : RunFault) (c : ConfigNumbers) (r : Option (List ℕ))
    → is_within o.aspect.lanes.slots c.blocks ≡ true → IfSome r (λ bytes. first_config (whole_lines bytes) ≡ Some c)
    → HasAreaByThen o f r
unread_behind o (BadLine n) c r within known = λ more. has_area o c r within known
unread_behind o (BadConfig n) c r within known = tt
unread_behind o Input c r within known = tt
unread_behind o Output c r within known = tt
unread_behind o NoMemory c r within known = tt

-- what is said then
pub undrawn : (o : DrawOptions) (fault : DrawFault) (r t v : Option (List ℕ)) → IsUndrawn o fault r t
    → DrawsText o (Err fault) r t v v
undrawn o (Run (BadLine n)) r t v h = (h, Keeps-refl v)
undrawn o (Run (BadConfig n)) r t v h = (h, Keeps-refl v)
undrawn o (Run Input) r t v h = (h, Keeps-refl v)
undrawn o (Run Output) r t v h = absurd h.2
undrawn o (Run NoMemory) r t v h = (h, Keeps-refl v)
undrawn o NoSlots r t v h = (h, Keeps-refl v)
undrawn o (Beyond n) r t v h = (h, Keeps-refl v)
undrawn o (TooLong n) r t v h = absurd h
undrawn o (NoStep n m) r t v h = absurd h
