-- Which leases from other servers are asked back.
use Rattle.std.specs.Prelude.{Bool, false}
use Rattle.fs_path.specs.Leases.{PathLease, goes_into}
use Rattle.fs_path.specs.Returns.{is_into, is_of}
use Rattle.fs_path.specs.Tables.{is_leaving}
use Rattle.fs_path.specs.declared.asked.Asked.{Asked}
use Rattle.fs_path.specs.declared.asked.Asked.TheVariants.{Number, Leaving, Into}
use Rattle.fs_path.specs.declared.having.Having.{Having}

abbrev pub asks : Asked → Having → Bool
asks (Number number) = is_of number
asks Leaving = is_leaving
asks (Into map me prefix) = is_into map.now me prefix.now

-- one that was given out is asked back by its own path
abbrev pub asks_issued : Asked → PathLease → Bool
asks_issued (Number number) = λ l. false
asks_issued Leaving = λ l. false
asks_issued (Into map me prefix) = goes_into map.now me prefix.now
