use Rattle.std.proofs.Common.{refl, sym}
use Rattle.hex.specs.Hex.{encode_upper}
use Rattle.line_text.proofs.HexLaws.{bytes_again, bytes_is}
use Rattle.line_text.proofs.Spelling.{spelling_one}
use Rattle.line_text.proofs.laws.hex_has_one_spelling.Goals as goal

pub returns : goal.returns
returns c = record {
  read_back = λ bytes fits. bytes_again (encode_upper bytes) bytes fits refl;
  one_list = λ a b fits fits' e.
      spelling_one (bytes_again (encode_upper a) a fits refl) (bytes_again (encode_upper a) b fits' e);
  written_back = λ bytes word e. sym (bytes_is word bytes e);
}
