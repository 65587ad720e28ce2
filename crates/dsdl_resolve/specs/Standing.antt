-- What stands in a file and in its last section.
use Rattle.std.specs.Prelude.{◌≡◌, List}
use Rattle.std.specs.List.{list_any, count_by}
use Rattle.dsdl_parse.specs.declared.statement.Statement.{Statement}
use Rattle.dsdl_resolve.specs.declared.standing.Standing.{Standing}
use Rattle.dsdl_resolve.specs.Says.{is_split, is_union, is_extent, is_deprecated, is_sealing}
use Rattle.dsdl_resolve.specs.Says.{is_field, is_entry}

-- which statements stand in a file and in its last section
pub record Stands (standing : Standing) (file section : List Statement) : Type 0 where
  pub split : standing.split ≡ list_any is_split file
  pub deprecated : standing.deprecated ≡ list_any is_deprecated file
  pub begun : standing.begun ≡ list_any is_entry file
  pub union : standing.union ≡ list_any is_union section
  pub sealing : standing.sealing ≡ list_any is_sealing section
  pub extent : standing.extent ≡ list_any is_extent section
  pub entry : standing.entry ≡ list_any is_entry section
  pub fields : standing.fields ≡ count_by is_field section
