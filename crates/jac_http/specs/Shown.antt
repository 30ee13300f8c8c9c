-- The parts of a head as plain data. Its headers are read from their places in its bytes.
use Rattle.std.specs.Prelude.{map}
use Rattle.httparse.specs.Spans.{header_bytes}
use Rattle.jac_http.specs.declared.head.Head.{Head}
use Rattle.jac_http.specs.Heads.{HeadParts}

abbrev pub parts_shown : Head → HeadParts
parts_shown head = record {
  method = head.method.now;
  target = head.target.now;
  minor = head.minor;
  headers = map (header_bytes head.bytes.now) head.headers.items;
}
