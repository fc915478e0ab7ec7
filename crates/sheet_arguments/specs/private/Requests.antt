-- The values that clap has found.
use Rattle.clap.specs.Words.{found_of, rows_of}
use Rattle.clap.specs.declared.parser.matches.ArgMatches.{ArgMatches}
use Rattle.sheet_arguments.specs.Requests.{Values, values_of}

abbrev pub values_in : ArgMatches → Values
values_in matches = values_of (rows_of (found_of matches))
