-- The names that several of these proofs cite, passed on from one place.
pub use Rattle.programs.specs.Openings.{AreMatched, IsNewlyMade}
pub use Rattle.programs.specs.declared.logged_writer.Log.{Log}
pub use Rattle.std.proofs.Common.{List, None, Some, [], ap, arith, codes, is_ok, length, map, refl, rules, slice_get}
pub use Rattle.std.proofs.Common.{subst, sym, true, ℕ, ◌++◌, ◌+◌, ◌<◌, ◌∙◌, ◌∷◌, ◌≡◌}
pub use Rattle.std.proofs.lemmas.List.{length-map}
pub use Rattle.std.specs.Io.KnownBytes.{Appends, Keeps}
pub use Rattle.std.specs.String.{string_bytes}
pub use contract.Monad.{Fun}
pub use denote.Triple.Entry.{on_entry}
pub use denote.Triple.Spec.{Meets, triple_of}
pub use denote.Triple.Table.{entered}
pub use mir.Val.{Val, vcons, vnil, vptr, vstruct, vunit}
pub use prog.Memory.{Memory}
pub use prog.Routine.{Routine}
pub use prog.Wp.{Calls, Loops, Tables, WpFn}
pub use seplogic.Ra.Ura.{Ura}
pub use sound.WpLaws.{WpFn-mono}
pub use types.Run.{and_then, enter, no_more, of_opd, returns, unit_lit}
