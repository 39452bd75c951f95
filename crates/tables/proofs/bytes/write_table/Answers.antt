-- All parts are written, and each has room.
use Rattle.std.proofs.Common.{rules, ◌++◌, ap, ◌∙◌}
use Rattle.tables.specs.Images.{header_of}
use Rattle.tables.specs.Tables.{table_value}
use Rattle.tables.proofs.Heads.{bound_fits, depths_fit, image_joined, records_fit}
use Rattle.tables.proofs.bytes.write_table.Goals as goal

pub returns : goal.returns
returns c =
    let t = table_value c.args.table.now in
    let v = c.args.version in
    record {
      fits = c.requires.fits;
      room = record {
        defaults = search rules;
        bases = search rules;
        accepts = search rules;
        nexts = search rules;
        checks = search rules;
        records = records_fit v t c.requires.fits (search rules);
        bound = bound_fits v t c.requires.fits c.in_ok-push_header.ensures.room;
        depths = depths_fit v t c.requires.fits c.in_ok-push_depths.ensures.room;
      };
      shaped = c.requires.shaped;
      limits = c.requires.limits;
      is = image_joined v t c.push_header.new.bytes.items c.push_words.new.bytes.items c.push_words-2.new.bytes.items
          c.push_words-3.new.bytes.items
          c.push_depths.new.bytes.items c.push_words-4.new.bytes.items c.push_words-5.new.bytes.items c.push_records.new.bytes.items
          (c.in_ok-push_header.ensures.bytes ∙ ap (λ z. z ++ header_of v t) c.new-bytes.ensures.items)
          (search rules) (search rules) (search rules) c.in_ok-push_depths.ensures.bytes
          (search rules) (search rules) (search rules);
    }
