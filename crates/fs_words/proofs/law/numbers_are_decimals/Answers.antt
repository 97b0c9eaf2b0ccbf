use Rattle.fs_words.proofs.Decimals.{decimal_is_number, number_is_decimal}
use Rattle.fs_words.proofs.law.numbers_are_decimals.Goals as goal

pub returns : goal.returns
returns c = record { form = number_is_decimal; read = decimal_is_number }
