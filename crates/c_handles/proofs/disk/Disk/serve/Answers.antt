use Rattle.std.proofs.Common.{inl, inr, refl}
use Rattle.c_handles.proofs.disk.Disk.serve.Goals as goal

pub returns-then-told-ne-UNFINISHED : goal.returns-then-told-ne-UNFINISHED
returns-then-told-ne-UNFINISHED c = record {
  between = c.fetch-told.new.self;
  fetch = c.fetch-told.result;
  fetches = c.fetch-told.ensures;
  finishes = λ h. elim h [ inl z ↦ absurd (c.if-told-ne0.true z) | inr z ↦ absurd (c.if-told-ne-UNFINISHED.true z) ];
  refused = λ h k. (refl, refl);
}

pub returns : goal.returns
returns c = record {
  between = c.fetch-told.new.self;
  fetch = c.fetch-told.result;
  fetches = c.fetch-told.ensures;
  finishes = λ h. c.finish.ensures;
  refused = λ h k. absurd (elim c.else-told-ne0.either [ inl z ↦ k z.1 | inr z ↦ h z ]);
}
