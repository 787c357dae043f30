use Rattle.std.proofs.Common.{refl}
use Rattle.line_text.proofs.NumberLaws.{decimal_spaceless}
use Rattle.line_text.proofs.WordLaws.{upper_without}
use Rattle.line_text.proofs.DataLaws.{data_spaceless}
use Rattle.line_text.proofs.laws.spellings_have_no_space.Goals as goal

pub returns : goal.returns
returns c = record {
  number = decimal_spaceless;
  hex = λ bytes. upper_without 32 bytes refl;
  data_word = λ bytes. data_spaceless 512 bytes;
}
