use Rattle.std.proofs.Common.{◌≡◌, ◌<◌, ◌^◌, true, take}
use Rattle.std.specs.Str.{all_ascii_digits}
use Rattle.std.specs.Str.Parse.{digits_value}
use Rattle.gp_tree.proofs.value.whole_value.Given as goal

abbrev pub invariant-digits : goal.invariant-digits
invariant-digits l = record {
  value : l.value ≡ digits_value 10 (take l.i l.text);
  small : l.value < 2 ^ 32;
  digits : all_ascii_digits (take l.i l.text) ≡ true;
}
