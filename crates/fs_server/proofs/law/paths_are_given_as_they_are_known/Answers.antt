use Rattle.fs_server.proofs.PathLaws.{given_as_known, given_to_child}
use Rattle.fs_server.proofs.law.paths_are_given_as_they_are_known.Goals as goal

pub returns-clause-known : goal.returns-clause-known
returns-clause-known c s from file dir number e = given_as_known from file dir s number e

pub returns-clause-child : goal.returns-clause-child
returns-clause-child c s from file dir number e = given_to_child from file dir s number e
